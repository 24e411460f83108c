-- A look of any kind.
use Rattle.std.proofs.Common.{◌≡◌, ◌≢◌, ℕ, ◌<◌, ◌⊎◌, Some, None, Option, sym, refl, subst, inl, inr, arith}
use Rattle.game.specs.Game.{Texts}
use Rattle.runs.specs.Book.{Book, Answer, refused, done, told, wrote, Goes, look, looks_pair, looks_struck, look_unloaded, look_nowhere}

-- a look of one kind that is none is answered like one of another that is none
other_kind : (j k n : ℕ) (b b' : Book) (a : Answer) → j ≢ 1 → j ≢ 2 → k ≢ 1 → k ≢ 2 → Goes (look j n) b a b' → Goes (look k n) b a b'
other_kind _ k n b _ _ j1 j2 k1 k2 (looks_pair t p has less at) = absurd (j1 refl)
other_kind _ k n b _ _ j1 j2 k1 k2 (looks_struck t m has less at) = absurd (j2 refl)
other_kind j k n b _ _ j1 j2 k1 k2 (look_unloaded none) = look_unloaded none
other_kind j k n b _ _ j1 j2 k1 k2 (look_nowhere t has past past') = look_nowhere t has (λ e. absurd (k1 e)) (λ e. absurd (k2 e))

-- the kind that the book takes for a number
abbrev pub Taken : ℕ → ℕ → Type 0
Taken byte kind = (byte ≡ kind) ⊎ ((byte ≡ 0) × (255 < kind))

pub any_kind : (byte kind n : ℕ) (b b' : Book) (a : Answer) → Taken byte kind → Goes (look byte n) b a b' → Goes (look kind n) b a b'
any_kind byte kind n b b' a (inl is) goes = subst (λ k. Goes (look k n) b a b') is goes
any_kind byte kind n b b' a (inr (none, large)) goes =
    let byte1 : byte ≢ 1 = omega arith in
    let byte2 : byte ≢ 2 = omega arith in
    let kind1 : kind ≢ 1 = omega arith in
    let kind2 : kind ≢ 2 = omega arith in
    other_kind byte kind n b b' a byte1 byte2 kind1 kind2 goes

-- the byte is not 0, so it is the kind
pub same_kind : (byte kind k : ℕ) → Taken byte kind → byte ≡ k → 0 < k → kind ≡ k
same_kind byte kind k (inl is) e some = omega arith
same_kind byte kind k (inr (none, large)) e some = absurd (omega arith)

-- what was written stands in a book with texts, as a pair or as a struck plan
abbrev pub Looked : ℕ → Answer → Book → Type 0
Looked k (wrote x y) b = ((t : Texts) × (b.texts ≡ Some t)) × ((k ≡ 1) ⊎ (k ≡ 2))
Looked k (refused e) b = Unit {0}
Looked k done b = Unit {0}
Looked k (told v c p s r) b = Unit {0}

pub looked : (k n : ℕ) (b b' : Book) (a : Answer) → Goes (look k n) b a b' → Looked k a b
looked _ n b _ _ (looks_pair t p has less at) = ((t, has), inl refl)
looked _ n b _ _ (looks_struck t m has less at) = ((t, has), inr refl)
looked k n b _ _ (look_unloaded none) = tt
looked k n b _ _ (look_nowhere t has past past') = tt
