use Rattle.std.proofs.Common.{◌∙◌, sym, subst, inl, inr, true≢false}
use Rattle.std.proofs.lemmas.Bool.{cases_Bool}
use Rattle.fip_tables.specs.Stream.{Stream, ReaderHolds, ReaderHoldsAt, HoldsPartOfGroup}
use Rattle.fip_tables.specs.declared.reader.Stage.{Stage}
use Rattle.fip_tables.proofs.Fronts.{other-unmarked, whole-marked}
use Rattle.fip_tables.proofs.stream.StreamToc.is_whole.Goals as goal

pub returns-clause-bytes : goal.returns-clause-bytes
returns-clause-bytes c = λ bytes h.
    let r = c.self.inside.reader in
    let holds = subst (λ (s : Stream). ReaderHolds s.reader bytes) (sym c.self.view_is) h.holds in
    elim (cases_Bool c.is_whole.result) [
      | inl is ↦
          let at = c.is_whole.ensures.0 is in
          let partial = subst (λ (s : Stage). HoldsPartOfGroup (record r { stage = s })) at c.self.invariant in
          is ∙ sym (whole-marked r.toc r.pending bytes partial (subst (λ (s : Stage). ReaderHoldsAt s r.toc r.pending bytes) at holds))
      | inr is ↦ is ∙ sym (other-unmarked r.stage r.toc r.pending bytes (λ at. true≢false (sym (c.is_whole.ensures.1 at) ∙ is)) c.self.invariant holds)
    ]
