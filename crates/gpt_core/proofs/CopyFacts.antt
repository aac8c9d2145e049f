-- A copy by its test, and by its facts.
use Rattle.std.proofs.Common.{◌≡◌, ℕ, ◌&&◌, ◌==◌, List, Some, refl, sym, ap, ◌∙◌, subst, le-leb, eq-eqb, eqb-true}
use Rattle.std.proofs.lemmas.Bool.{and_parts, and_from}
use Rattle.std.specs.Prelude.{IsTrue}
use Rattle.base_core.specs.{Block.block, Bytes.num_at, Bytes.part, Crc.crc, Seal.has_table_seal}
use Rattle.gpt_core.specs.declared.table.TableCopy.{TableCopy}
use Rattle.gpt_core.specs.Table.{Table, IsCopy, blocks_of, number_in, header_at, other, entries_at, has_start, has_places, header_has_fields, is_roomy, is_header, table_entries_in, copy_in}
use Rattle.gpt_core.proofs.Copies.{table_by, valid_parts, valid_from, valid_roomy}

pub says : (copy : TableCopy) (blocks : ℕ) (image : List ℕ) (t : Table) → copy_in copy blocks image ≡ Some t → IsCopy copy blocks image t
unfolding header_has_fields
says copy blocks image t is =
    let header = block (header_at copy blocks) image in
    let valid = valid_parts copy blocks image t is in
    let outer = and_parts (has_table_seal header && header_has_fields copy blocks header) (is_roomy blocks (number_in header)) valid.header in
    let sealed = and_parts (has_table_seal header) (header_has_fields copy blocks header) outer.0 in
    let fields = and_parts (has_start header && has_places copy blocks header) (num_at 4 header 84 == 128) sealed.1 in
    let both = and_parts (has_start header) (has_places copy blocks header) fields.0 in
    let start = and_parts ((num_at 4 header 8 == 65536) && (num_at 4 header 12 == 92)) (num_at 4 header 20 == 0) both.0 in
    let first = and_parts (num_at 4 header 8 == 65536) (num_at 4 header 12 == 92) start.0 in
    let places = and_parts ((num_at 8 header 24 == header_at copy blocks) && (num_at 8 header 32 == header_at (other copy) blocks)) (num_at 8 header 72 == entries_at copy blocks (blocks_of (number_in header))) both.1 in
    let two = and_parts (num_at 8 header 24 == header_at copy blocks) (num_at 8 header 32 == header_at (other copy) blocks) places.0 in
    let roomy = valid_roomy copy blocks header valid.header in
    let entries = ap (λ (u : Table). u.entries) valid.is in
    record {
      header = header;
      stands = refl;
      sealed = sealed.0;
      revision = eqb-true _ _ first.0;
      size = eqb-true _ _ first.1;
      zero_field = eqb-true _ _ start.1;
      own_place = eqb-true _ _ two.0;
      other_place = eqb-true _ _ two.1;
      usable = (ap (λ (u : Table). u.first) valid.is, ap (λ (u : Table). u.last) valid.is);
      disk = ap (λ (u : Table). u.disk) valid.is;
      number = (roomy.some, roomy.few);
      entry_size = eqb-true _ _ fields.1;
      entry_place = eqb-true _ _ places.1;
      entries = entries;
      checks = valid.checks ∙ ap crc entries;
      apart = roomy.apart;
    }

pub said : (copy : TableCopy) (blocks : ℕ) (image : List ℕ) (t : Table) → IsCopy copy blocks image t → copy_in copy blocks image ≡ Some t
unfolding header_has_fields
said copy blocks image t c =
    let start = and_from _ _ (and_from _ _ (eq-eqb _ _ c.revision) (eq-eqb _ _ c.size)) (eq-eqb _ _ c.zero_field) in
    let places = and_from _ _ (and_from _ _ (eq-eqb _ _ c.own_place) (eq-eqb _ _ c.other_place)) (eq-eqb _ _ c.entry_place) in
    let fields = and_from _ _ (and_from _ _ start places) (eq-eqb _ _ c.entry_size) in
    let roomy = and_from _ _ (and_from _ _ (le-leb _ _ c.number.0) (le-leb _ _ c.number.1)) (le-leb _ _ c.apart) in
    let header : IsTrue (is_header copy blocks c.header) = and_from _ _ (and_from _ _ c.sealed fields) roomy in
    let same : table_entries_in copy blocks (block (header_at copy blocks) image) image ≡ t.entries = ap (λ (h : List ℕ). table_entries_in copy blocks h image) c.stands ∙ c.entries in
    valid_from copy blocks image t (record {
      header = subst (λ (h : List ℕ). IsTrue (is_header copy blocks h)) (sym c.stands) header;
      checks = ap (λ (h : List ℕ). num_at 4 h 88) c.stands ∙ c.checks ∙ ap crc (sym same);
      is = table_by _ t.disk _ t.first _ t.last _ t.entries
          (ap (λ (h : List ℕ). part h 56 72) c.stands ∙ c.disk) (ap (λ (h : List ℕ). num_at 8 h 40) c.stands ∙ c.usable.0) (ap (λ (h : List ℕ). num_at 8 h 48) c.stands ∙ c.usable.1) same;
    })
