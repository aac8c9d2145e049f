-- Words that are no flags.
use Rattle.std.specs.Prelude.{◌≢◌, [], ◌∷◌}
use Rattle.clap.specs.Words.{Text}

-- a word that begins with no hyphen
abbrev pub IsPlain : Text → Type 0
IsPlain [] = Unit {0}
IsPlain (c ∷ word) = c ≢ 45
