use Rattle.std.proofs.Common.{◌≡◌, ◌++◌, ◌≤◌, ◌∙◌, ◌<◌, sym, subst, ap, List, ℕ, IsTrue, map, length, arith}
use Rattle.std.specs.Prelude.{flat_map}
use Rattle.std.specs.List.{list_all}
use Rattle.std.proofs.lemmas.List.{length-map}
use Rattle.sha2.specs.Sha256.{sha256}
use Rattle.base_core.specs.Bytes.{le}
use Rattle.fwu_formats.specs.Manifest.{Manifest, manifest_of, manifest_body, manifest_bytes, manifest_magic, manifest_row_bytes, is_manifest_row, form_of}
use Rattle.fwu_formats.proofs.ManifestWritten.{written-is-read}
use Rattle.manifest_core.specs.{declared.rows.Row.Row as SpecRow, Shown.row}
use Rattle.manifest_core.proofs.value.Manifest.write.Goals as goal

spelled : (c : goal.In_ok-extend_from_slice) → c.extend_from_slice.new.self.items ≡ manifest_bytes c.args.self.now
unfolding manifest_bytes
spelled c =
    let inside = c.self.inside in
    let m : Manifest = record { security = inside.security; rows = map row inside.rows.items } in
    let count : c.len.result ≡ length m.rows = c.len.ensures ∙ sym c.as_slice.ensures.len ∙ ap length c.as_slice.ensures.value ∙ sym (length-map inside.rows.items row) in
    let front : ℕ → List ℕ = λ n. le 4 manifest_magic ++ le 4 (form_of m.security) ++ le 4 m.security ++ le 4 n in
    let body : c.push_rows.new.bytes.items ≡ manifest_body m =
    c.in_ok-push_rows.ensures.spelled
    ∙ ap (λ (b : List ℕ). b ++ flat_map manifest_row_bytes (map row c.as_slice.result.now)) c.in_ok-bytes.ensures
    ∙ ap (λ (rows : List SpecRow). front c.len.result ++ flat_map manifest_row_bytes (map row rows)) c.as_slice.ensures.value
    ∙ ap (λ (n : ℕ). front n ++ flat_map manifest_row_bytes m.rows) count in
    c.in_ok-extend_from_slice.ensures.items
    ∙ ap (λ (d : List ℕ). c.push_rows.new.bytes.items ++ d) (c.digest-digest.ensures ∙ ap sha256 c.as_slice-2.ensures.value)
    ∙ ap (λ (b : List ℕ). b ++ sha256 b) body
    ∙ ap manifest_bytes c.self.view_is

pub returns-clause-spelled : goal.returns-clause-spelled
returns-clause-spelled c = spelled c

pub returns-clause-read_again : goal.returns-clause-read_again
returns-clause-read_again c = λ images rest suits.
    let Fine : Manifest → Type 0 = λ m. (m.security < 4294967296) × (length m.rows ≤ 15) × IsTrue (list_all is_manifest_row m.rows) in
    let inside = c.self.inside in
    let m : Manifest = record { security = inside.security; rows = map row inside.rows.items } in
    let few : length m.rows ≤ 15 = omega (arith, length-map inside.rows.items row, c.self.invariant.1) in
    let rows : IsTrue (list_all is_manifest_row m.rows) = subst (λ (rows : List SpecRow). IsTrue (list_all is_manifest_row (map row rows))) c.as_slice.ensures.value c.in_ok-push_rows.ensures.fits in
    let small : m.security < 4294967296 = omega arith in
    let fine = subst Fine c.self.view_is (small, few, rows) in
    ap (λ (b : List ℕ). manifest_of images (b ++ rest)) (spelled c)
    ∙ written-is-read.manifest images c.args.self.now rest (record {
      count = suits.count;
      few = omega (arith, fine.1, suits.count);
      security = fine.0;
      rows = fine.2;
      order = suits.order;
      sizes = suits.sizes;
    })
