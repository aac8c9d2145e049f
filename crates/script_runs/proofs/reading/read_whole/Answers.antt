use Rattle.std.proofs.Common.{◌≡◌, ◌∙◌, ℕ, List, [], Ok, Err, arith, false, inl, refl, subst}
use Rattle.fwu_model.specs.Script.{is_too_long, script_of}
use Rattle.script_runs.specs.Ways.{bad_script, not_read, too_long}
use Rattle.script_runs.proofs.{Making.lacks, Making.makes, Making.source-not-boot, Making.starves, TopWays.of-told}
use Rattle.script_runs.proofs.TopSources.{is-long, none-fails, starves-by, takes-run}
use Rattle.script_runs.proofs.reading.read_whole.Goals as goal

pub returns-in-Ok-read_script : goal.returns-in-Ok-read_script
returns-in-Ok-read_script g c =
    let e = c.in-Ok.ensures in
    makes g.I.Source _ _ _ source-not-boot e.later e.once (λ script. script) _
    (of-told _ _ (λ rest is.
    let whole = e.whole rest is in (
      subst (λ (b : List ℕ). is_too_long b ≡ false) whole e.short.0,
      subst (λ (b : List ℕ). script_of b ≡ Ok c.in-Ok-read_script.script) (c.as_slice.ensures.value ∙ whole) c.in-Ok-read_script.ensures.ok,
    )))
    (λ is. e.takes) e.count

pub returns-in-Err-Failed : goal.returns-in-Err-Failed
returns-in-Err-Failed g c =
    let e = rw c.in-Err-Failed.field-0-is at c.in-Err-Failed.ensures in
    lacks g.I.Source _ _ _ source-not-boot e.later e.once (λ script. script) _ (λ some given was are listed. not_read listed refl (e.failed refl)) (λ is. e.takes) e.count (λ is. absurd cc)

pub returns-in-Err-TooLong : goal.returns-in-Err-TooLong
returns-in-Err-TooLong g c =
    let e = rw c.in-Err-TooLong.field-0-is at c.in-Err-TooLong.ensures in
    lacks g.I.Source _ _ _ source-not-boot e.later e.once (λ script. script) _ (λ some given was are listed. too_long listed refl (is-long _ _ e.takes)) (λ is. e.takes) e.count (λ is. absurd cc)

pub returns-in-Err-NoMemory : goal.returns-in-Err-NoMemory
returns-in-Err-NoMemory g c =
    let e = rw c.in-Err-NoMemory.field-0-is at c.in-Err-NoMemory.ensures in
    starves g.I.Source _ _ _ source-not-boot e.later e.once (λ script. script) (e.starved refl)

pub returns-in-Err-BadLine : goal.returns-in-Err-BadLine
returns-in-Err-BadLine g c =
    let e = c.in-Ok.ensures in
    let fault = rw c.in-Err-BadLine.field-0-is at c.in-Err-BadLine.ensures.fault in
    lacks g.I.Source _ _ _ source-not-boot e.later e.once (λ script. script) _
    (λ some given was are listed. bad_script c.in-Err-BadLine.line listed (inl refl)
    (of-told _ _ (λ rest is. subst (λ (b : List ℕ). is_too_long b ≡ false) (e.whole rest is) e.short.0))
    (of-told _ _ (λ rest is. subst (λ (b : List ℕ). script_of b ≡ Err c.in-Err-BadLine.line) (c.as_slice.ensures.value ∙ e.whole rest is) fault)))
    (λ is. takes-run [] 4 _ _ e.takes (λ eight. absurd (omega arith))) (none-fails [] 4 _ _ (e.count.none refl)) (λ is. absurd cc)

pub returns : goal.returns
returns g c =
    let e = c.in-Ok.ensures in
    starves g.I.Source _ _ _ source-not-boot e.later e.once (λ script. script) (starves-by 0 _ _ _ _ e.takes (λ is. absurd (omega arith)) refl (e.count.none refl))
