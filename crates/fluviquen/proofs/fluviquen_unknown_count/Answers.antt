use mathlib.Core.Path.{ap, ◌∙◌}
use Rattle.fluviquen.specs.Answers.{count_in}
use Rattle.fluviquen.proofs.AnswerLaws.{count-told}
use Rattle.fluviquen.proofs.fluviquen_unknown_count.Goals as goal

pub returns : goal.returns
returns c =
    let a = c.unknown_count-answer in
    record { value = c.number.ensures ∙ a.ensures.number_value; count_after = c.unwrap_or.ensures ∙ count-told a.result ∙ ap count_in a.ensures.count_value }
