use Rattle.std.proofs.Common.{◌≡◌, ◌∙◌, ◌∷◌, [], ℕ, List, Result, Ok, Err, ap, arith, refl, subst, sym}
use Rattle.std.specs.Prelude.{IfOk}
use Rattle.host_io.specs.{Joined.AsksNoPiece, declared.joining.Piece.Piece}
use Rattle.fip_tool.specs.{Lines.made_line, Done.DidIn, Done.PutsMade, Steps.FaultsOnce, Steps.Makes, Tool.puts}
use Rattle.fip_making.specs.{declared.made.Made.Made, declared.stops.Stop.Stop}
use Rattle.fip_making.specs.Payloads.{IsWholeFile, made_by}
use Rattle.fip_making.specs.declared.stops.Stop.TheVariants as stop
use Rattle.fip_making.proofs.Refusing.{handed-on}
use Rattle.fip_tool.proofs.{Faults.faults-none, WroteLemmas.no-texts, WroteLemmas.texts-behind}
use Rattle.fip_tool.proofs.WritingLemmas.{joined-made, made-put}
use Rattle.fip_tool.proofs.writing.put_made.Goals as goal

pub returns-clause-told : goal.returns-clause-told
returns-clause-told g c = λ told e.
    let made = c.in-Ok.made in
    let whole : IsWholeFile (g.H.Files.contents c.args.files.now) made = rw c.in-Ok.is at c.requires in
    subst (λ (r : Result Made Stop). IfOk r (λ m. DidIn g.H.Files g.O.Sink (Makes (puts (made_line c.args.format) c.args.out.now (made_by told m))) told c.args.files.now c.join_and_print.new.files c.args.sink.now c.join_and_print.new.sink c.join_and_print.result)) (sym c.in-Ok.is)
    (made-put (made_line c.args.format) told c.args.out.now (Ok (made_by told made)) (made_by told made) _ c.as_slice.result.now _ _ _ _ _ _ _ _ c.join_and_print.result refl
    (joined-made told made c.as_slice-frame.result.now c.as_slice-pieces.result.now c.as_slice-frame.ensures.value c.as_slice-pieces.ensures.value)
    (c.as_slice.ensures.value ∙ c.in_ok-line.ensures ∙ ap (made_line c.args.format made.count) (whole.sized told e)) (λ r. r) (λ r. r) (c.join_and_print.ensures.told told e))

pub returns-clause-puts : goal.returns-clause-puts
returns-clause-puts g c =
    let made = c.in-Ok.made in
    subst (λ (m : Result Made Stop). PutsMade g.H.Files g.O.Sink c.args.format m c.join_and_print.result c.args.files.now c.join_and_print.new.files c.args.sink.now c.join_and_print.new.sink) (sym c.in-Ok.is)
    (texts-behind (λ texts. texts ≡ c.as_slice.result.now ∷ []) (λ texts. texts ≡ made_line c.args.format made.count made.frame.size ∷ [])
    (λ texts t. t ∙ ap (λ (l : List ℕ). l ∷ []) (c.as_slice.ensures.value ∙ c.in_ok-line.ensures)) refl refl c.join_and_print.ensures.texts)

pub returns-clause-spares : goal.returns-clause-spares
returns-clause-spares g c = λ access other apart.
    c.join_and_print.ensures.spares access other (subst (λ (ps : List Piece). AsksNoPiece ps access) (sym c.as_slice-pieces.ensures.value) (rw c.in-Ok.is at apart))

pub returns-in_err-line-clause-puts : goal.returns-in_err-line-clause-puts
returns-in_err-line-clause-puts g c =
    let none : FaultsOnce {X = Unit {0}} (g.H.Files.faults c.args.files.now) (g.H.Files.faults c.args.files.now) (Err stop.NoMemory) = faults-none refl in
    rw (handed-on c.from_residual.result stop.NoMemory c.from_residual.ensures.1)
    (subst (λ (m : Result Made Stop). PutsMade g.H.Files g.O.Sink c.args.format m (Err stop.NoMemory) c.args.files.now c.args.files.now c.args.sink.now c.args.sink.now) (sym c.in-Ok.is)
    (no-texts stop.NoMemory none refl (λ e. absurd cc) tt (λ e. absurd cc) (omega arith)))
