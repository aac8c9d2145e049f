use Rattle.std.proofs.Common.{arith, refl}
use Rattle.early_boot.specs.Numbers.{numbers}
use Rattle.fwu_c.proofs.{Showing.banks_are, Showing.inside, Booting.start_now}
use Rattle.fwu_c.proofs.show.find_bank.Goals as goal

pub check-requires-clause-fits : goal.check-requires-clause-fits
check-requires-clause-fits c = inside c.args.image.now c.args.layout.now _ c.requires.layout c.in-Ok.ensures.size

pub check-requires-clause-bank : goal.check-requires-clause-bank
check-requires-clause-bank c =
    let all = banks_are c.args.image.now c.args.layout.now (numbers c.args.read.now) c.requires.layout c.requires.numbers in
    omega (arith, all, c.requires.bank)

pub returns-clause-found : goal.returns-clause-found
returns-clause-found c =
    let now = start_now c.args.image.now _ _ c.in-Ok.ensures.content in
    let found = rw now at (c.in-Ok-check.ensures.verdict refl) in
    rw (
      c.state_number.ensures,
      c.get.ensures,
      c.verdict_number.ensures,
      c.version_in.ensures,
      c.image_in.ensures,
      found,
      c.accepted_in.ensures,
      c.get-2.ensures,
    )
