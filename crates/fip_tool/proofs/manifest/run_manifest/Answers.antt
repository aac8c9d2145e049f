use Rattle.std.proofs.Common.{◌≡◌, ◌∙◌, ◌∷◌, [], ℕ, List, Vec, ap, length, map, refl, rules, sym, ◌≢◌, Some}
use Rattle.std.proofs.lemmas.List.{length-map}
use Rattle.std.proofs.lemmas.List.Elements.{All-nil}
use Rattle.std.specs.Global.{Global}
use Rattle.base_core.specs.Counts.{Rose}
use Rattle.fip_words.specs.Order as asks
use Rattle.fip_words.specs.{Order.image_view, Values.NamedImage}
use Rattle.host_io.specs.Access.{Asks}
use Rattle.fip_tool.specs.{Lines.manifest_line, Wrote.IsTexts, Steps.outcome_by, Steps.MayTear, Tool.puts}
use Rattle.fip_making.specs.{Values.manifest_value, Stops.IsManifestStop}
use Rattle.fip_making.specs.declared.stops.Stop.TheVariants as stop
use Rattle.fip_tool.proofs.{Did.no-memory-yet, Did.refused, DoneBy.done-texts, DoneBy.done-unread, WritingLemmas.made-put}
use Rattle.fip_tool.proofs.{WritingLemmas.tears-since, Refusing.of-map, WroteLemmas.texts-behind}
use Rattle.fip_making.proofs.{ReadsBy.alone-starved, Refusing.late-of-manifest, Refusing.handed-on, Tables.rose-from}
use Rattle.fip_tool.proofs.manifest.run_manifest.Goals as goal

pub returns : goal.returns
returns g c =
    let put = c.join_and_print.ensures in
    let long : c.len.result ≡ length c.in_ok-rows.bytes.items = search rules in
    let line = c.as_slice.ensures.value ∙ c.in_ok-line.ensures in
    let lined = line ∙ ap (λ (n : ℕ). manifest_line n c.len.result c.args.security) (c.in_ok-rows.ensures.count ∙ sym (length-map c.args.named.now image_view)) in
    done-texts (texts-behind (λ texts. texts ≡ c.as_slice.result.now ∷ []) (IsTexts (Some (asks.manifest c.args.out.now c.args.security (map image_view c.args.named.now))))
    (λ texts t. (c.len.result, t ∙ ap (λ (l : List ℕ). l ∷ []) lined)) c.in_ok-rows.ensures.reads.only.quiet c.manifest.ensures.reads.files.unwritten put.texts)
    (λ w. w) late-of-manifest
    (λ told e.
    made-put (λ count size. manifest_line count size c.args.security) told c.args.out.now _ (c.in_ok-rows.rows, c.in_ok-rows.bytes.items) c.as_slice-bytes.result.now c.as_slice.result.now _ _ _ _ _ _ _ _ c.join_and_print.result
    (c.in_ok-rows.ensures.told told e) c.as_slice-bytes.ensures.value (line ∙ ap (λ (n : ℕ). manifest_line c.in_ok-rows.rows n c.args.security) long)
    (λ r. rose-from _ _ _ c.manifest.ensures.reads.files.later r) (λ r. tears-since (g.H.Files.writes c.join_and_print.new.files) c.manifest.ensures.reads.files.unwritten r)
    (put.told told (c.manifest.ensures.reads.files.same ∙ e)))
    (λ access other.
    g.met.H.Files.joins _ _ _ access (c.manifest.ensures.reads.files.spares access (of-map (λ (r : NamedImage). access ≢ Asks r.file) image_view c.args.named.now other.0)) (put.spares access other.1 (All-nil _)))

pub returns-in_err-rows : goal.returns-in_err-rows
returns-in_err-rows g c =
    let e = c.in_err-rows.ensures in
    rw (handed-on c.from_residual.result c.in_err-rows.field-0.0 c.from_residual.ensures.1) (done-unread c.in_err-rows.field-0.0 e.reads
    (λ access other. of-map (λ (r : NamedImage). access ≢ Asks r.file) image_view c.args.named.now other.0)
    (λ refuses access other. e.reads.files.spares access (of-map (λ (r : NamedImage). access ≢ Asks r.file) image_view c.args.named.now other))
    (λ told is.
    refused (puts (λ count size. manifest_line count size c.args.security) c.args.out.now) (λ (m : ℕ × Vec ℕ Global). (m.0, m.1.items)) (manifest_value told c.args.security (map image_view c.args.named.now)) told _ _ _ _ _ _ c.in_err-rows.field-0.0
    (e.told told is) (e.reads.files.same ∙ is) refl)
    e.reads.refusals)

pub returns-in_err-line : goal.returns-in_err-line
returns-in_err-line g c =
    let e = c.manifest.ensures in
    rw (handed-on c.from_residual-in_err-line.result stop.NoMemory c.from_residual-in_err-line.ensures.1) (done-unread {X = Unit {0}} {IsOwn = IsManifestStop} stop.NoMemory (alone-starved tt e.reads.files c.in_ok-rows.ensures.reads.only.quiet)
    (λ access other. of-map (λ (r : NamedImage). access ≢ Asks r.file) image_view c.args.named.now other.0)
    (λ refuses access other. e.reads.files.spares access (of-map (λ (r : NamedImage). access ≢ Asks r.file) image_view c.args.named.now other))
    (λ told is.
    no-memory-yet (outcome_by (puts (λ count size. manifest_line count size c.args.security) c.args.out.now) (manifest_value told c.args.security (map image_view c.args.named.now))) told _ _ _
    (Rose (g.H.Files.faults c.args.files.now) (g.H.Files.faults c.manifest.new.files)) (MayTear (g.H.Files.writes c.args.files.now) (g.H.Files.writes c.manifest.new.files)) (Rose (g.O.Sink.faults c.args.sink.now) (g.O.Sink.faults c.args.sink.now))
    (e.reads.files.same ∙ is) refl)
    tt)
