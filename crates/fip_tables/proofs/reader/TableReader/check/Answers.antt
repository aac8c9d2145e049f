use Rattle.std.proofs.Common.{◌≡◌, ◌∙◌, ap, sym, subst, ℕ, List, Err}
use Rattle.fwu_formats.specs.Package.{toc_of}
use Rattle.fwu_formats.specs.declared.kinds.FipFault.TheVariants as fault
use Rattle.fip_tables.specs.{Stream.ReaderHolds, Stream.HoldsPartOfGroup, Stream.Reader, declared.reader.Stage.Stage}
use Rattle.fip_tables.specs.declared.reader.Stage.TheVariants as stage
use Rattle.fip_tables.proofs.Fronts.{answer_at, answers, as-answered}
use Rattle.fip_tables.proofs.reader.TableReader.check.Goals as goal

-- the answer of a reader that is at a stage
known : (r seen : Reader) (at : Stage) (bytes : List ℕ) → seen ≡ r → seen.stage ≡ at → HoldsPartOfGroup r → ReaderHolds r bytes → toc_of bytes ≡ answer_at at seen.toc bytes
known r seen at bytes is is-at partial holds =
    subst (λ (x : Reader). toc_of bytes ≡ answer_at at x.toc bytes) (sym is)
    (subst (λ (s : Stage). toc_of bytes ≡ answer_at s r.toc bytes) (sym (ap (λ (x : Reader). x.stage) is) ∙ is-at) (answers r.stage r.toc r.pending bytes partial holds))

pub returns-in-Faulty : goal.returns-in-Faulty
returns-in-Faulty c = λ bytes long holds. known c.args.self.now _ (stage.Faulty c.in-Faulty.fault) bytes c.self.view_is c.in-Faulty.is c.requires holds

pub returns-in-Header : goal.returns-in-Header
returns-in-Header c = λ bytes long holds. known c.args.self.now _ stage.Header bytes c.self.view_is c.in-Header.is c.requires holds

pub returns-in-Table : goal.returns-in-Table
returns-in-Table c = λ bytes long holds.
    known c.args.self.now _ stage.Table bytes c.self.view_is c.in-Table.is c.requires holds
    ∙ ap (λ (n : ℕ). Err (fault.NoEnd n)) (sym c.count_of.ensures)

pub returns-in-Whole : goal.returns-in-Whole
returns-in-Whole c = λ bytes long holds.
    as-answered c.check_ends.result (toc_of bytes) _ c.self.inside.toc _ (ap (λ (x : Reader). x.toc) c.self.view_is)
    (known c.args.self.now _ stage.Whole bytes c.self.view_is c.in-Whole.is c.requires holds) (c.check_ends.ensures bytes long)
