-- A command that requires a subcommand reads nothing only where `clap` refuses the words.
use Rattle.std.proofs.Common.{◌≡◌, ◌&&◌, Bool, true, false, not, List, [], ◌∷◌, Option, Some, None, refl, sym, ◌∙◌, true≢false}
use Rattle.std.specs.Prelude.{is_some}
use Rattle.std.proofs.Common.{◌⊎◌, inl, inr}
use Rattle.clap.specs.{Kinds.IsAmong, Kinds.Kinds, Kinds.check_kinds, Kinds.or_else, declared.error.ErrorKind.ErrorKind}
use Rattle.clap.specs.{declared.error.ErrorKind.TheVariants.OutOfMemory, Facts.explicit_source, Simple.argument_words}
use Rattle.clap.specs.{Simple.built, Simple.entered, Simple.names_of, Takes.is_given, Walk.Held, Walk.finished, Walk.nothing_held}
use Rattle.clap.specs.{Walk.settled, Walk.walk, Walk.walk_from, Words.App, Words.Row, Words.Text, Words.subcommand_of}
use Rattle.clap.specs.Faults.{defaults_fault, entered_fault, fault_of, settle_fault, walk_fault}
use Rattle.std.specs.List.{list_any}
use Rattle.clap_words.specs.Words.{reads, unless_it_fails}

or_else_end : (a b : Kinds) → or_else a b ≡ [] → b ≡ []
or_else_end [] b e = e
or_else_end (k ∷ ks) b e = cc

check_named : (has wants required : Bool) (other : Bool) → required ≡ true → check_kinds (not has && wants) (not has && required) other ≡ [] → has ≡ true
check_named true wants required other r e = refl
check_named false true required other r e = cc
check_named false false true other r e = cc
check_named false false false other r e = absurd (true≢false (sym r))

pub named : (a : App) (words : List Text) → (built a).top.subcommand_required ≡ true → fault_of a words ≡ [] → is_some (subcommand_of a words) ≡ true
named a words required none =
    check_named (is_some (entered b stop)) (b.top.arg_required_else_help && not (list_any (λ r. explicit_source r.source) rows)) b.top.subcommand_required
    (not (b.top.subcommand_negates_reqs && is_some (entered b stop)) && list_any (λ r. r.required && not (is_given r.id rows)) b.top.rules) required
    (or_else_end (defaults_fault (settled b.top.rules held).rows b.top.rules) _
    (or_else_end (settle_fault b.top.rules b.top.args_override_self held) _
    (or_else_end (entered_fault b stop) _
    (or_else_end (walk_fault b.top (names_of b) (walk_from nothing_held) (argument_words a words)) _ none))))
  where
    b : App
    b = built a

    held : Held
    held = (walk b.top.rules (names_of b) nothing_held (argument_words a words)).held

    stop : Option (Text × List Text)
    stop = (walk b.top.rules (names_of b) nothing_held (argument_words a words)).stopped

    rows : List Row
    rows = finished b.top.rules held

some_is_not_none : (o : Option (Text × List Row)) → is_some o ≡ true → None ≡ o → ⊥
some_is_not_none None s e = true≢false (sym s)
some_is_not_none (Some p) s e = cc

pub refused : (a : App) (words : List Text) → (built a).top.subcommand_required ≡ true → reads a words ≡ None → fault_of a words ≡ [] → ⊥
refused a words required e none =
    let read : reads a words ≡ subcommand_of a words = rw none refl in
    some_is_not_none (subcommand_of a words) (named a words required none) (sym e ∙ read)

pub reads_nothing : (a : App) (words : List Text) → (fault_of a words ≡ [] → ⊥) → reads a words ≡ None
reads_nothing a words fails = go (fault_of a words) fails
  where
    go : (k : Kinds) → (k ≡ [] → ⊥) → unless_it_fails k (subcommand_of a words) ≡ None
    go [] e = absurd (e refl)
    go (k ∷ ks) e = refl

-- an error that is none of memory has a kind among the faults
pub fault_is_some : (k : ErrorKind) (kinds : Kinds) → (k ≡ OutOfMemory → ⊥) → (k ≡ OutOfMemory) ⊎ IsAmong k kinds → kinds ≡ [] → ⊥
fault_is_some k kinds other (inl e) none = other e
fault_is_some k [] other (inr among) none = among
fault_is_some k (x ∷ xs) other (inr among) none = cc
