use Rattle.std.proofs.Common.{◌≡◌, ◌∙◌, ◌<◌, ◌+◌, List, ap, drop, length, sym, take, arith}
use Rattle.std.proofs.lemmas.List.{drop-drop, drop-set-lt, length-set, take_more_set}
use Rattle.meta_layout.proofs.Places.{pushed}
use Rattle.early_boot.specs.Numbers.{numbers}
use Rattle.fwu_c.specs.{Shows.bank_shown, declared.show.BankShown.BankShown}
use Rattle.fwu_c.proofs.show.show_banks.Goals as goal

pub loop-bank-preserved : goal.loop-bank-preserved
loop-bank-preserved c =
    let told = c.loop-bank.shown.bank in
    let bank = c.loop-bank.bank in
    let all : length told ≡ 4 = c.loop-bank.invariant.1 in
    let near : bank < length told = omega (arith, all, c.requires.are.most, c.loop-bank-test.true) in
    let numbers_stay = c.loop-bank.invariant.2 in (
      take_more_set told bank c.in-Some.found near
          ∙ pushed (bank_shown c.args.image.now c.args.layout.now (numbers c.args.read.now)) (take bank told) bank c.in-Some.found c.loop-bank.invariant.0 c.in-Some.ensures.found,
      length-set told bank c.in-Some.found ∙ all,
      assumption,
      c.find_bank.ensures.room ∙ c.loop-bank.invariant.3,
      drop-set-lt (bank + 1) told bank c.in-Some.found (omega arith)
          ∙ sym (drop-drop 1 bank told) ∙ ap (λ (ks : List BankShown). drop 1 ks) c.loop-bank.invariant.4 ∙ drop-drop 1 bank c.args.shown.now.bank,
      c.loop-bank.invariant.5,
    )
