-- The kinds of bins, as the model has them.
-- Assumes nothing.
use Rattle.std.specs.Prelude.{ℕ}
use Rattle.model.specs.Table as model
use Rattle.words.specs.declared.kinds.Kind.{Kind}
use Rattle.words.specs.declared.kinds.Kind.TheVariants.{Cover, Ignore, Illegal, Default}

abbrev pub meant : Kind → model.Kind
meant Cover = model.cover
meant Ignore = model.ignore
meant Illegal = model.illegal
meant Default = model.default

-- the byte that says it
abbrev pub byte_of : Kind → ℕ
byte_of Cover = 0
byte_of Ignore = 1
byte_of Illegal = 2
byte_of Default = 3
