use Rattle.std.proofs.Common.{◌∙◌, ap, refl, arith}
use Rattle.fwu_c.specs.Reports.{fault_code}
use Rattle.fwu_c.proofs.{Booting.has_flash_size, Showing.no_six, Showing.tells_nothing, Telling.unmade_by, Booting.start_now}
use Rattle.fwu_c.proofs.show.fwu_show.Goals as goal

pub returns-in-Err-clause-tells : goal.returns-in-Err-clause-tells
returns-in-Err-clause-tells c = tells_nothing _ _ _
    (rw c.unmade_number.ensures (unmade_by c.args.image.now c.in-Err.why c.in-Err.ensures.unmade))

pub show_all-requires-clause-numbers : goal.show_all-requires-clause-numbers
show_all-requires-clause-numbers c =
    rw (start_now c.args.image.now _ _ c.in-Ok.ensures.content) at (c.in-Ok-read_numbers_in.ensures.numbers refl)

pub returns-in-Err-Layout-clause-shows : goal.returns-in-Err-Layout-clause-shows
returns-in-Err-Layout-clause-shows c = λ low.
    let now = start_now c.args.image.now _ _ c.in-Ok.ensures.content in (
      c.in-Err-Layout.fault,
      rw (c.in-Err-Layout.field-0-is, now) at (c.in-Err-Layout.ensures.nothing refl),
      c.fault_number-shown.ensures ∙ ap (λ f. fault_code f) c.in-Err-Layout.fault-is,
    )

pub returns-in-Err-Metadata-clause-shows : goal.returns-in-Err-Metadata-clause-shows
returns-in-Err-Metadata-clause-shows c = λ low.
    let now = start_now c.args.image.now _ _ c.in-Ok.ensures.content in
    rw (c.in-Err-Metadata.field-0-is, now) at (c.in-Err-Metadata.ensures.nothing refl)

pub returns-in-Err-Layout-clause-tells : goal.returns-in-Err-Layout-clause-tells
returns-in-Err-Layout-clause-tells c = record {
  fault = λ one. refl;
  fault_stays = λ other. absurd (other refl);
  behind = refl;
  no_flash = no_six _ 1 (has_flash_size _ c.in-Ok.flash c.in-Ok.ensures.size) (λ six. omega (arith, six));
  untouched = λ low. absurd (omega (arith, low));
}
