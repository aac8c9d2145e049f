use Rattle.std.proofs.Common.{◌<◌, length, subst, arith}
use Rattle.fwu_formats.specs.Layout.{Layout}
use Rattle.meta_layout.proofs.Fits.{meta-fits, row-length}
use Rattle.agent_kept.specs.Kept.{kept}
use Rattle.agent_state.specs.Settles.{IsPlanOf}
use Rattle.agent_state.proofs.settling.change_meta.Goals as goal

pub update_bank-requires : goal.update_bank-requires
update_bank-requires c = record { active = (meta-fits (record { banks = length c.args.meta.now.meta.states; rows = (kept c.args.session.now).rows }) c.args.meta.now.meta c.requires.fits).active }

pub switch-requires-clause-bits : goal.switch-requires-clause-bits
switch-requires-clause-bits c =
    let whole = meta-fits (record { banks = length c.args.meta.now.meta.states; rows = (kept c.args.session.now).rows }) c.args.meta.now.meta c.requires.fits in
    omega (arith, whole.bits, c.update_bank.ensures.below)

pub accept_image-requires-clause-state : goal.accept_image-requires-clause-state
accept_image-requires-clause-state c = (meta-fits (record { banks = length c.args.meta.now.meta.states; rows = (kept c.args.session.now).rows }) c.args.meta.now.meta c.requires.fits).active

pub accept_image-requires-clause-bits : goal.accept_image-requires-clause-bits
accept_image-requires-clause-bits c =
    let whole = meta-fits (record { banks = length c.args.meta.now.meta.states; rows = (kept c.args.session.now).rows }) c.args.meta.now.meta c.requires.fits in
    omega (arith, whole.bits, whole.active)

pub accept_image-requires-clause-within : goal.accept_image-requires-clause-within
accept_image-requires-clause-within c =
    let k = kept c.args.session.now in
    let L : Layout = record { banks = length c.args.meta.now.meta.states; rows = k.rows } in
    let whole = meta-fits L c.args.meta.now.meta c.requires.fits in
    let within : c.in-Accept.image < length k.rows = subst (IsPlanOf k) c.in-Accept.is c.requires.plan in
    omega (arith, within, row-length L c.args.meta.now.meta c.args.meta.now.meta.active whole whole.active)

pub free_if-requires-clause-active : goal.free_if-requires-clause-active
free_if-requires-clause-active c = (meta-fits (record { banks = length c.args.meta.now.meta.states; rows = (kept c.args.session.now).rows }) c.args.meta.now.meta c.requires.fits).active

pub free_if-requires-clause-bits : goal.free_if-requires-clause-bits
free_if-requires-clause-bits c =
    let whole = meta-fits (record { banks = length c.args.meta.now.meta.states; rows = (kept c.args.session.now).rows }) c.args.meta.now.meta c.requires.fits in
    omega (arith, whole.bits, whole.states)
