-- The bytes of three texts, and what a book has of them.
use Rattle.std.specs.Prelude.{◌≡◌, ℕ, List, [], Some, Ok, vec_items, Vec}
use Rattle.std.specs.declared.alloc.Global.{Global}
use Rattle.game.specs.Game.{Texts}
use Rattle.game.specs.Sides.{Side}
use Rattle.reading.specs.Loads as reading
use Rattle.reading.specs.Loads.{ThreeRead, Loads}
use Rattle.loading.specs.declared.sources.Three.{Three}
use Rattle.runs.specs.Book.{Book, texts_of}

pub record Bytes : Type 0 where
  pub plan : List ℕ
  pub faults : List ℕ
  pub site : List ℕ

abbrev pub no_bytes : Bytes
no_bytes = record { plan = []; faults = []; site = [] }

abbrev pub bytes_of : Three (Vec ℕ Global) → Bytes
bytes_of t = record { plan = vec_items t.plan; faults = vec_items t.faults; site = vec_items t.site }

-- what they give, read one after another
abbrev pub Gives : Bytes → reading.Three → Type 0
Gives w t = ThreeRead w.plan w.faults w.site (Ok t)

-- what the book has was loaded from them
abbrev pub LoadedFrom : Book → Bytes → Type 0
LoadedFrom b w = (t : Texts) → b.texts ≡ Some t → (i : ℕ) × (x : Side × reading.Three) × Loads i w.plan w.faults w.site (Ok x) × (texts_of x ≡ t)
