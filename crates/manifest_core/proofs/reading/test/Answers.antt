use Rattle.std.proofs.Common.{◌∙◌, ap, ℕ, take, Result, Ok, Err, arith}
use Rattle.std.specs.Prelude.{OnOk}
use Rattle.fwu_formats.specs.Manifest.{manifest_of}
use Rattle.manifest_core.specs.Shown.{version_of}
use Rattle.manifest_core.proofs.InTurn.{short_is, of_front}
use Rattle.manifest_core.proofs.reading.test.Goals as goal

pub returns-then-bytes-size-clause-is : goal.returns-then-bytes-size-clause-is
returns-then-bytes-size-clause-is c = short_is c.args.rows.now c.args.bytes.now (omega (arith, c.manifest_size-size.ensures, c.if-bytes-size.true))

pub returns-clause-is : goal.returns-clause-is
returns-clause-is c =
    c.test_whole.ensures
    ∙ ap (λ (k : ℕ). version_of (manifest_of c.args.rows.now (take k c.args.bytes.now))) c.manifest_size-size.ensures
    ∙ ap version_of (of_front c.args.rows.now c.args.bytes.now (omega (arith, c.manifest_size-size.ensures, c.if-bytes-size.false)))

pub returns-clause-room : goal.returns-clause-room
returns-clause-room c = OnOk-always c.test_whole.result _ (omega (arith, c.manifest_size-size.ensures, c.if-bytes-size.false))
  where
    OnOk-always : {T E : Type 0} (r : Result T E) (A : Type 0) → A → OnOk r A
    OnOk-always (Ok x) A a = a
    OnOk-always (Err e) A a = tt
