use Rattle.std.proofs.Common.{◌≡◌, ◌+◌, ◌-◌, ◌*◌, ◌∙◌, ◌++◌, ap, arith, length, length-take, subst, sym, take, drop, List, ℕ}
use Rattle.std.specs.Prelude.{IsTrue, IfOk}
use Rattle.std.proofs.lemmas.Result.{IfOk-weaker}
use Rattle.flash_core.specs.Told.{Told}
use Rattle.base_core.proofs.Lists.{take-front}
use Rattle.fwu_formats.specs.{Layout.ImageRow, Layout.slot_total, Layout.start, Manifest.manifest_size}
use Rattle.image_check.specs.{Passed.IsVerdictBy, declared.bank.Verdict.Verdict}
use Rattle.image_check.specs.Verdict.{found, front_of, verdict_on}
use Rattle.image_check.proofs.OfBank.{bank_fits, found_is, front_read, some_blocks}
use Rattle.image_check.proofs.bank.check_keeping_manifest.Goals as goal

pub read-requires-clause-inside : goal.read-requires-clause-inside
read-requires-clause-inside g c =
    let L = c.args.asked.now.layout.now in
    let n = c.manifest_size-size.result in
    let some = some_blocks L c.rows-rows.ensures.fit in
    let bank = bank_fits c.args.asked.now.bank L.banks (slot_total L.rows) (g.D.Flash.blocks c.args.flash.now) c.requires.bank c.requires.fits in
    let count = ap length c.rows-rows.ensures.value in
    omega (arith, some, bank, c.start-first.ensures, length-take n c.args.front.now, c.manifest_size-size.ensures, count, c.rows-rows.ensures.high)

pub check_manifest-requires-clause-there : goal.check_manifest-requires-clause-there
check_manifest-requires-clause-there g c =
    let L = c.args.asked.now.layout.now in
    let n = c.manifest_size-size.result in
    let out = c.read.new.out in
    let bank = bank_fits c.args.asked.now.bank L.banks (slot_total L.rows) (g.D.Flash.blocks c.args.flash.now) c.requires.bank c.requires.fits in
    let count = ap length c.rows-rows.ensures.value in
    let total = ap slot_total c.rows-rows.ensures.value in
    let long : length out ≡ n = omega (arith, c.read.auto.out, length-take n c.args.front.now, c.manifest_size-size.ensures, c.requires.front, count, c.rows-rows.ensures.high) in
    record {
      on = c.in_ok-read.ensures.power;
      some = omega (arith, count, c.rows-rows.ensures.low);
      few = omega (arith, count, c.rows-rows.ensures.high);
      manifest = ap length (take-front n out (drop n c.args.front.now) long) ∙ long ∙ c.manifest_size-size.ensures;
      inside = omega (arith, bank, total, c.start-first.ensures, c.in_ok-read.ensures.size);
    }

pub returns-clause-verdict : goal.returns-clause-verdict
returns-clause-verdict g c =
    let asked = c.args.asked.now in
    let L = asked.layout.now in
    let old = g.D.Flash.told c.args.flash.now in
    let passes = g.V.Verifier.passes c.args.verifier.now in
    let first = c.start-first.result in
    let rows = c.rows-rows.result.now in
    let n = c.manifest_size-size.result in
    let front = c.args.front.now in
    let out = c.read.new.out in
    let kept = take n (out ++ drop n front) in
    let P : Verdict → Type 0 = λ v. IsTrue g.D.Flash.tells → v ≡ found passes asked.counter (g.D.Flash.told c.read.new.self).now rows first kept in
    let Q : Verdict → Type 0 = λ v. IsTrue g.D.Flash.tells → v ≡ verdict_on passes asked.counter L old.now asked.bank in
    let bank = bank_fits asked.bank L.banks (slot_total L.rows) (g.D.Flash.blocks c.args.flash.now) c.requires.bank c.requires.fits in
    let at : first ≡ 8 + asked.bank * slot_total L.rows = omega (arith, c.start-first.ensures) in
    let count = ap length c.rows-rows.ensures.value in
    let size : length (take n front) ≡ n = omega (arith, length-take n front, c.manifest_size-size.ensures, c.requires.front, count, c.rows-rows.ensures.high) in
    let is-out = take-front n out (drop n front) (c.read.auto.out ∙ size) in
    IfOk-weaker c.check_manifest.result P Q
    (λ v is tells.
    let long = (g.met.D.Flash.sound c.args.flash.now tells).size in
    is tells ∙ ap (λ (t : Told). found passes asked.counter t.now rows first kept) (c.in_ok-read.ensures.content tells)
    ∙ ap (found passes asked.counter old.now rows first)
    (is-out ∙ front_read old.now rows first out _ (c.in_ok-read.ensures.bytes tells) (size ∙ c.manifest_size-size.ensures))
    ∙ ap (λ (r : List ImageRow). found passes asked.counter old.now r first (front_of old.now r first)) c.rows-rows.ensures.value
    ∙ found_is passes asked.counter old.now L asked.bank first c.rows-rows.ensures.fit at (omega (arith, bank, at, long)))
    c.check_manifest.ensures.verdict

pub returns-clause-by_manifest : goal.returns-clause-by_manifest
returns-clause-by_manifest g c =
    let passes = g.V.Verifier.passes c.args.verifier.now in
    let L = c.args.asked.now.layout.now in
    let n = c.manifest_size-size.result in
    let front = c.read.new.out ++ drop n c.args.front.now in
    let is = c.manifest_size-size.ensures ∙ ap (λ (r : List ImageRow). manifest_size (length r - 1)) c.rows-rows.ensures.value in
    subst (λ (k : ℕ). IfOk c.check_manifest.result (IsVerdictBy passes L.rows (take k front))) is
    (subst (λ (r : List ImageRow). IfOk c.check_manifest.result (IsVerdictBy passes r (take n front))) c.rows-rows.ensures.value c.check_manifest.ensures.by_manifest)

pub returns-clause-manifest : goal.returns-clause-manifest
returns-clause-manifest g c =
    let L = c.args.asked.now.layout.now in
    let image = (g.D.Flash.told c.args.flash.now).now in
    let first = c.start-first.result in
    let rows = c.rows-rows.result.now in
    let n = c.manifest_size-size.result in
    let front = c.args.front.now in
    let out = c.read.new.out in
    let count = ap length c.rows-rows.ensures.value in
    let size : length (take n front) ≡ n = omega (arith, length-take n front, c.manifest_size-size.ensures, c.requires.front, count, c.rows-rows.ensures.high) in
    let is = c.manifest_size-size.ensures ∙ ap (λ (r : List ImageRow). manifest_size (length r - 1)) c.rows-rows.ensures.value in
    let Q : Verdict → Type 0 = λ v. IsTrue g.D.Flash.tells
    → take (manifest_size (length L.rows - 1)) (out ++ drop n front) ≡ front_of image L.rows (start L c.args.asked.now.bank 0) in
    IfOk-weaker c.check_manifest.result _ Q
    (λ v told tells.
    ap (λ (k : ℕ). take k (out ++ drop n front)) (sym is) ∙ take-front n out (drop n front) (c.read.auto.out ∙ size)
    ∙ front_read image rows first out _ (c.in_ok-read.ensures.bytes tells) (size ∙ c.manifest_size-size.ensures)
    ∙ ap (λ (r : List ImageRow). front_of image r first) c.rows-rows.ensures.value
    ∙ ap (front_of image L.rows) c.start-first.ensures)
    c.check_manifest.ensures.verdict
