use Rattle.std.proofs.Common.{lit<, ◌∙◌}
use Rattle.std.proofs.lemmas.Bool.Decides.{not_from_Decides}
use Rattle.std.proofs.lemmas.Str.Pattern.{starts_char}
use Rattle.desk_text.proofs.Numbers.{number_parsed}
use Rattle.desk_text.proofs.words.number.Goals as goal

pub returns : goal.returns
returns c =
    let word = c.args.word.now in
    let plus = starts_char 43 word c.starts_with.result c.starts_with.ensures.cases (lit< tt) (lit< tt) in
    c.ok.ensures.value ∙ number_parsed word c.parse.result (not_from_Decides c.starts_with.result plus c.if-starts_with.false) c.parse.ensures.value.0
