-- What the reader holds after one more whole group.
use Rattle.std.proofs.Common.{◌≡◌, ◌≢◌, ℕ, suc, ◌+◌, ◌-◌, ◌*◌, ◌≤◌, Bool, true, false, List, [], ◌∷◌, ◌++◌, length, Ok, Err, refl, sym, ap, subst, ◌∙◌, arith, length-append, length-drop}
use Rattle.std.proofs.Math.ListN.{drop_of_length-le}
use Rattle.std.specs.List.{list_any}
use Rattle.base_core.specs.Bytes.{same_bytes}
use Rattle.fwu_formats.specs.{Layout.nil_guid, declared.kinds.FipFault.FipFault}
use Rattle.fwu_formats.specs.Package.{Entry, Toc, entry_at, entry_limit, entries_from, has_guid}
use Rattle.fwu_formats.specs.declared.kinds.FipFault.TheVariants as fault
use Rattle.fip_tables.specs.Stream.{entry_from, IsHeaderOf, HasLastingFault, IsAmongEntries, IsPastMarker}
use Rattle.fip_tables.proofs.Fronts.{entry-front, entry-of-group, header-front, num-front}
use Rattle.fip_tables.proofs.Steps.{another-is-too-many, bad-name, by-fault, equal-is-duplicate, marker-ends, new-is-read, zero-serial}

-- ---- an entry

-- the reader is among the entries, and holds a whole one
pub record HasEntry (toc : Toc) (group : List ℕ) (e : Entry) (bytes : List ℕ) : Type 0 where
  pub among : IsAmongEntries toc group bytes
  pub whole : length group ≡ 40
  pub read : e ≡ entry_from group 0

module _ (toc : Toc) (group : List ℕ) (e : Entry) (bytes : List ℕ) (h : HasEntry toc group e bytes) where
  abbrev k : ℕ
  k = length toc.entries

  room : 16 + 40 * (k + 1) ≤ length bytes
  room = omega (arith, ap length h.among.rest, h.whole, length-drop (16 + 40 * k) bytes, h.among.place)

  entry-is : (rest : List ℕ) → entry_at (bytes ++ rest) k ≡ e
  entry-is rest = entry-front bytes rest k room ∙ sym (h.read ∙ entry-of-group group bytes k h.among.rest)

  room-in : (rest : List ℕ) → 16 + 40 * (k + 1) ≤ length (bytes ++ rest)
  room-in rest = omega (arith, room, length-append bytes rest)

  nil-in : (rest : List ℕ) (b : Bool) → same_bytes e.guid nil_guid ≡ b → same_bytes (entry_at (bytes ++ rest) k).guid nil_guid ≡ b
  nil-in rest b nil = ap (λ (x : Entry). same_bytes x.guid nil_guid) (entry-is rest) ∙ nil

  equal-in : (rest : List ℕ) (b : Bool) → list_any (has_guid e.guid) toc.entries ≡ b → list_any (has_guid (entry_at (bytes ++ rest) k).guid) toc.entries ≡ b
  equal-in rest b equal = ap (λ (x : Entry). list_any (has_guid x.guid) toc.entries) (entry-is rest) ∙ equal

  pub after-marker : same_bytes e.guid nil_guid ≡ true → IsPastMarker toc bytes
  after-marker nil = record { header = h.among.header; entries = λ rest. ends rest (left-of toc.entries h.among.few) }
    where
      left-of : (xs : List Entry) → length xs ≤ entry_limit → (left : ℕ) × (length xs + left ≡ entry_limit)
      left-of xs few = (entry_limit - length xs, omega (arith, few))

      ends : (rest : List ℕ) → (left : ℕ) × (k + left ≡ entry_limit) → entries_from (bytes ++ rest) [] 0 entry_limit ≡ Ok toc.entries
      ends rest left = h.among.begins rest left.0 left.1 ∙ marker-ends (bytes ++ rest) toc.entries k (room-in rest) left.0 (nil-in rest true nil)

  pub after-too-many : k ≡ 64 → same_bytes e.guid nil_guid ≡ false → HasLastingFault fault.TooMany bytes
  after-too-many full some = record {
    first = λ rest. by-fault (bytes ++ rest) toc fault.TooMany (header-front bytes rest toc h.among.header)
        (h.among.begins rest 0 (omega (arith, full)) ∙ another-is-too-many (bytes ++ rest) toc.entries k (room-in rest) (nil-in rest false some));
    lasts = refl;
  }

  pub after-duplicate : k ≢ 64 → same_bytes e.guid nil_guid ≡ false → list_any (has_guid e.guid) toc.entries ≡ true → HasLastingFault (fault.Duplicate k) bytes
  after-duplicate few some equal = record {
    first = λ rest. by-fault (bytes ++ rest) toc (fault.Duplicate k) (header-front bytes rest toc h.among.header)
        (h.among.begins rest (suc (63 - k)) (omega (arith, few, h.among.few)) ∙ equal-is-duplicate (bytes ++ rest) toc.entries k (room-in rest) (63 - k) (nil-in rest false some) (equal-in rest true equal));
    lasts = refl;
  }

  pub after-entry : (entries : List Entry) → k ≢ 64 → entries ≡ toc.entries ++ e ∷ []
      → same_bytes e.guid nil_guid ≡ false → list_any (has_guid e.guid) toc.entries ≡ false → IsAmongEntries (record { serial = toc.serial; flags = toc.flags; entries = entries }) [] bytes
  after-entry entries few is some other =
      let longer : length entries ≡ k + 1 = ap length is ∙ length-append toc.entries (e ∷ []) in
      let all : length bytes ≡ 16 + 40 * (k + 1) = omega (arith, ap length h.among.rest, h.whole, length-drop (16 + 40 * k) bytes, h.among.place) in
      record {
        header = record {
          long = h.among.header.long;
          name = h.among.header.name;
          some = h.among.header.some;
          serial = h.among.header.serial;
          flags = h.among.header.flags;
        };
        few = omega (arith, longer, few, h.among.few);
        begins = λ rest left at.
            h.among.begins rest (suc left) (omega (arith, at, longer))
            ∙ new-is-read (bytes ++ rest) toc.entries k (room-in rest) left (nil-in rest false some) (equal-in rest false other)
            ∙ ap (λ (x : Entry). entries_from (bytes ++ rest) (toc.entries ++ x ∷ []) (k + 1) left) (entry-is rest)
            ∙ ap (λ (xs : List Entry). entries_from (bytes ++ rest) xs (k + 1) left) (sym is)
            ∙ ap (λ (n : ℕ). entries_from (bytes ++ rest) entries n left) (sym longer);
        place = omega (arith, longer, all);
        rest = sym (drop_of_length-le bytes {i = 16 + 40 * length entries} (omega (arith, longer, all)));
      }

-- ---- the header

pub after-bad-header : (f : FipFault) (group bytes : List ℕ) → group ≡ bytes → length group ≡ 16 → IsHeaderOf group (Err f) → HasLastingFault f bytes
after-bad-header fault.BadName group bytes is whole header = record {
  first = λ rest.
      let all : length bytes ≡ 16 = sym (ap length is) ∙ whole in
      let parts = subst (λ (xs : List ℕ). IsHeaderOf xs (Err fault.BadName)) is header in
      bad-name (bytes ++ rest) (omega (arith, all, length-append bytes rest)) (λ e. parts (sym (num-front 4 bytes rest 0 (omega (arith, all))) ∙ e));
  lasts = refl;
}
after-bad-header fault.ZeroSerial group bytes is whole header = record {
  first = λ rest.
      let all : length bytes ≡ 16 = sym (ap length is) ∙ whole in
      let parts = subst (λ (xs : List ℕ). IsHeaderOf xs (Err fault.ZeroSerial)) is header in
      zero-serial (bytes ++ rest) (omega (arith, all, length-append bytes rest)) (num-front 4 bytes rest 0 (omega (arith, all)) ∙ parts.0) (num-front 4 bytes rest 4 (omega (arith, all)) ∙ parts.1);
  lasts = refl;
}
after-bad-header f group bytes is whole header = absurd header
