use Rattle.std.proofs.Common.{◌≡◌, ◌∙◌, ap, rules, sym, subst, List, Err, map}
use Rattle.fwu_formats.specs.Package.{Part}
use Rattle.host_io.specs.Joined.{joined}
use Rattle.fip_tables.specs.{Frame.chunks, Packing.AreOutlines, Packing.zeroed, declared.faults.PackStop.PackStop}
use Rattle.capsule_tables.specs.Making.{IsCapsuleOf, make_fault}
use Rattle.capsule_tables.proofs.{Made.same-make_fault, Made.types-of, ReadAgain.made-is-read}
use Rattle.capsule_tables.proofs.making.make_capsule.Goals as goal

pub returns-in_err-frame-clause-fault : goal.returns-in_err-frame-clause-fault
returns-in_err-frame-clause-fault c = record {
  fits = search rules;
  err = λ f is.
      let items : List Part = c.args.parts.now.parts.items in
      let all : c.as_slice.result.now ≡ map zeroed items = c.as_slice.ensures.value ∙ c.in_ok-all.ensures ∙ ap (map zeroed) c.as_slice-payloads.ensures.value in
      let why = rw is at c.from_residual-in_err-frame.ensures.1 in
      sym (same-make_fault items) ∙ ap make_fault (sym all) ∙ c.in_err-frame.ensures.fault.err f (ap (λ (s : PackStop). Err s) (sym why));
}

pub returns-clause-ok : goal.returns-clause-ok
returns-clause-ok c =
    let items : List Part = c.args.parts.now.parts.items in
    let frame = c.in_ok-frame.frame in
    let all : c.as_slice.result.now ≡ map zeroed items = c.as_slice.ensures.value ∙ c.in_ok-all.ensures ∙ ap (map zeroed) c.as_slice-payloads.ensures.value in
    c.in_ok-filled.ensures
    ∙ ap (λ (ps : List Part). joined frame.bytes.items (chunks frame.gaps.items ps)) c.as_slice-payloads.ensures.value
    ∙ c.in_ok-frame.ensures.frame.filled items (sym all)

pub returns-clause-read_again : goal.returns-clause-read_again
returns-clause-read_again c =
    let items : List Part = c.args.parts.now.parts.items in
    let all : c.as_slice.result.now ≡ map zeroed items = c.as_slice.ensures.value ∙ c.in_ok-all.ensures ∙ ap (map zeroed) c.as_slice-payloads.ensures.value in
    let none = sym (same-make_fault items) ∙ ap make_fault (sym all) ∙ c.in_ok-frame.ensures.fault.fits in
    subst (IsCapsuleOf items) (sym (returns-clause-ok c)) (made-is-read items none (types-of items (subst AreOutlines all c.in_ok-frame.ensures.frame.outlines)))

pub returns-clause-fault : goal.returns-clause-fault
returns-clause-fault c =
    let items : List Part = c.args.parts.now.parts.items in
    let all : c.as_slice.result.now ≡ map zeroed items = c.as_slice.ensures.value ∙ c.in_ok-all.ensures ∙ ap (map zeroed) c.as_slice-payloads.ensures.value in
    record {
      fits = sym (same-make_fault items) ∙ ap make_fault (sym all) ∙ c.in_ok-frame.ensures.fault.fits;
      err = search rules;
    }
