use mathlib.Core.Path.{refl}
use Rattle.arrays.specs.Flat.{kind_of, kinds_of}
use Rattle.crosses.proofs.labels.put_cross_kinds.Goals as goal

pub returns : goal.returns
unfolding kinds_of
returns c =
    let q = c.put_all_labels in
    record { value = q.ensures.value; kinds_after = q.ensures.by_index kind_of (record { on_cover = λ x i. refl; on_illegal = λ x i. refl; on_product = λ x cs. refl }) }
