use Rattle.std.proofs.Common.{◌≡◌, ◌∙◌, ◌&&◌, Bool, true, false, map, string_bytes, refl, sym, true≢false}
use Rattle.clap.specs.{Words.app_of, Words.kind_of, Faults.fault_of}
use Rattle.clap_words.proofs.Refusals.{fault_is_some, reads_nothing}
use Rattle.clap_words.proofs.found.matches.Goals as goal

first_true : (a b : Bool) → (a && b) ≡ true → a ≡ true
first_true true b e = refl
first_true false b e = absurd (true≢false (sym e))

pub returns-in-Ok-clause-ok : goal.returns-in-Ok-clause-ok
returns-in-Ok-clause-ok c =
    let none_fails = c.in-Ok.ensures.kinds c.requires in
    let rows = c.in-Ok.ensures.matches (first_true _ _ c.requires) in
    rw none_fails rows.1

pub returns-clause-usage : goal.returns-clause-usage
returns-clause-usage c = λ e.
    let texts = map string_bytes c.args.words.now in
    reads_nothing (app_of c.args.command) texts (fault_is_some (kind_of c.in-Err.error) (fault_of (app_of c.args.command) texts)
    (λ memory. c.in_default.not-OutOfMemory (c.kind.ensures ∙ memory)) (c.in-Err.ensures.kinds c.requires))
