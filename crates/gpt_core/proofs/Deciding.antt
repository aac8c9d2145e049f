-- What the copies say where a table decides, and what a repair of the other copy leaves.
use Rattle.std.proofs.Common.{◌≡◌, ℕ, ◌*◌, Bool, true, false, ◌&&◌, ◌==◌, length, Option, Some, None, refl, sym, ap, ◌∙◌, subst, eqb-true}
use Rattle.std.proofs.lemmas.Bool.{and_parts, false≢true}
use Rattle.std.proofs.lemmas.Result.{IfOk-weaker}
use Rattle.std.specs.Prelude.{◌≢◌, IsTrue, Result, Ok, if◌then◌else◌}
use Rattle.base_core.specs.Bytes.{same_bytes}
use Rattle.base_core.proofs.Spelled.{same_is}
use Rattle.flash_core.specs.{declared.flash.FlashStop.FlashStop, Told.Told}
use Rattle.gpt_core.specs.{declared.table.TableCopy.TableCopy, declared.table.WhichTable.WhichTable, Writes.Spans}
use Rattle.gpt_core.specs.declared.table.TableCopy.TheVariants.{Primary, Backup}
use Rattle.gpt_core.specs.declared.table.WhichTable.TheVariants.{Same, RepairPrimary, RepairBackup}
use Rattle.gpt_core.specs.Table.{Table, FitsTable, blocks_of, entry_number_of, header_at, entries_at, copy_in, copy_from, copy_to, same_table, deciding_table, table_in_image, DecidesTable}
use Rattle.gpt_core.specs.Repair.{MendsTable, HeadersGuarded, Ready, RepairSteps, IsMended}
use Rattle.gpt_core.proofs.{Mending.both_say, Stepping.image_is_now}
use Rattle.gpt_core.proofs.Copies.{some_is, table_by, same_table_refl, header_within, entries_within}

-- What the copies say where this table decides, and this is to be repaired.
abbrev TableFinds : WhichTable → Table → Option Table → Option Table → Type 0
TableFinds Same t primary backup = (primary ≡ Some t) × (backup ≡ Some t)
TableFinds RepairPrimary t primary backup = (primary ≡ None) × (backup ≡ Some t)
TableFinds RepairBackup t primary backup = (primary ≡ Some t) × (backup ≢ Some t)

-- tables that are tested to be the same are one
same_is_table : (t u : Table) → IsTrue (same_table t u) → t ≡ u
same_is_table t u h =
    let outer = and_parts (same_bytes t.disk u.disk && (t.first == u.first) && (t.last == u.last)) (same_bytes t.entries u.entries) h in
    let mid = and_parts (same_bytes t.disk u.disk && (t.first == u.first)) (t.last == u.last) outer.0 in
    let inner = and_parts (same_bytes t.disk u.disk) (t.first == u.first) mid.0 in
    table_by t.disk u.disk t.first u.first t.last u.last t.entries u.entries (same_is _ _ inner.0) (eqb-true _ _ inner.1) (eqb-true _ _ mid.1) (same_is _ _ outer.1)

pair_is : (a b : Table) (v w : WhichTable) → ◌≡◌ {A = Option (Table × WhichTable)} (Some (a, v)) (Some (b, w)) → (a ≡ b) × (v ≡ w)
pair_is a b v w is = let both = some_is {X = Table × WhichTable} (a, v) (b, w) is in (ap (λ (p : Table × WhichTable). p.0) both, ap (λ (p : Table × WhichTable). p.1) both)

pub finds_from : (primary backup : Option Table) (t : Table) (which : WhichTable) → deciding_table primary backup ≡ Some (t, which) → TableFinds which t primary backup
finds_from (Some a) (Some u) t which is = go (same_table a u) refl is
  where
    go : (b : Bool) → same_table a u ≡ b → ◌≡◌ {A = Option (Table × WhichTable)} (Some (a, if b then Same else RepairBackup)) (Some (t, which)) → TableFinds which t (Some a) (Some u)
    go true e same = let p = pair_is a t Same which same in subst (λ (k : WhichTable). TableFinds k t (Some a) (Some u)) p.1 (ap Some p.0, ap Some (sym (same_is_table a u e) ∙ p.0))
    go false e same =
        let p = pair_is a t RepairBackup which same in
        subst (λ (k : WhichTable). TableFinds k t (Some a) (Some u)) p.1
        (ap Some p.0, λ says. let one : u ≡ a = some_is u t says ∙ sym p.0 in false≢true (sym e ∙ subst (λ (v : Table). IsTrue (same_table a v)) (sym one) (same_table_refl a)))
finds_from (Some a) None t which is = let p = pair_is a t RepairBackup which is in subst (λ (k : WhichTable). TableFinds k t (Some a) None) p.1 (ap Some p.0, λ says. absurd (cc))
finds_from None (Some u) t which is = let p = pair_is u t RepairPrimary which is in subst (λ (k : WhichTable). TableFinds k t None (Some u)) p.1 (refl, ap Some p.0)
finds_from None None t which is = absurd (cc)

pub mends_from : {T : Type 0} (result : Result T FlashStop) (blocks : ℕ) (t : Table) (u : Told) → RepairSteps (IsMended blocks t) result blocks t u → MendsTable result blocks t u
mends_from result blocks t u steps = record {
  stays = steps.stays;
  both = IfOk-weaker result _ _ (λ x done. done.0) steps.ok;
  settled = IfOk-weaker result _ _ (λ x done. done.1) steps.ok;
}

module _ (blocks : ℕ) (t : Table) (s : Told) (size : length s.now ≡ 4096 * blocks) (guarded : HeadersGuarded blocks s) where
  pub mends_same : table_in_image blocks s.now ≡ Some (t, Same) → {T : Type 0} (x : T) → MendsTable {T = T} (Ok x) blocks t s
  mends_same is x =
      let finds = finds_from (copy_in Primary blocks s.now) (copy_in Backup blocks s.now) t Same is in
      record {
        stays = λ image may. subst (DecidesTable blocks t) (sym (image_is_now s image guarded.nothing may)) (Same, is);
        both = both_say Primary blocks s.now t finds.0 finds.1;
        settled = guarded.nothing;
      }

  pub ready_primary : table_in_image blocks s.now ≡ Some (t, RepairPrimary) → Ready Primary blocks t s
  ready_primary is =
      let finds = finds_from (copy_in Primary blocks s.now) (copy_in Backup blocks s.now) t RepairPrimary is in
      record { nothing = guarded.nothing; size = size; guarded = guarded.primary; says = finds.1; decides = (RepairPrimary, is) }

  pub ready_backup : table_in_image blocks s.now ≡ Some (t, RepairBackup) → Ready Backup blocks t s
  ready_backup is =
      let finds = finds_from (copy_in Primary blocks s.now) (copy_in Backup blocks s.now) t RepairBackup is in
      record { nothing = guarded.nothing; size = size; guarded = guarded.backup; says = finds.0; decides = (RepairBackup, is) }

-- the blocks that a repair writes lie in the copy
pub inside_copy : (w : TableCopy) (blocks : ℕ) (t : Table) (header first n : ℕ) → FitsTable blocks t → header ≡ header_at w blocks → first ≡ entries_at w blocks (blocks_of (entry_number_of t)) → n ≡ length t.entries
    → Spans (copy_from w blocks (blocks_of (entry_number_of t))) (copy_to w blocks (blocks_of (entry_number_of t))) header first n
inside_copy w blocks t header first n fits h f is =
    let e = blocks_of (entry_number_of t) in
    let hw = header_within w blocks e fits.apart in
    let ew = entries_within w blocks e fits.apart in
    let whole : n ≡ entry_number_of t * 128 = is ∙ fits.whole in
    rw (h, f, whole) (record { header_low = hw.0; header_high = hw.1; first_low = ew.0; first_high = ew.1 })
