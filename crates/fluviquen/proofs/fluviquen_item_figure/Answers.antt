use mathlib.Core.Path.{ap, ◌∙◌}
use Rattle.figures.specs.Figures.{present_of, percent_of}
use Rattle.fluviquen.specs.Answers.{present_in, percent_in}
use Rattle.fluviquen.proofs.AnswerLaws.{item_present, item-percent}
use Rattle.fluviquen.proofs.fluviquen_item_figure.Goals as goal

pub returns : goal.returns
returns c =
    let a = c.item_figure-answer in
    let f = c.unwrap_or-figure.ensures in
    record { value = c.number.ensures ∙ a.ensures.number_value; present_after = c.present.ensures ∙ ap present_of f ∙ item_present a.result ∙ ap present_in a.ensures.figure_value; percent_after = c.percent_of.ensures ∙ ap percent_of f ∙ item-percent a.result ∙ ap percent_in a.ensures.figure_value }
