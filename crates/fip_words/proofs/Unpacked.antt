-- The files that `unpack` may write.
use Rattle.std.proofs.Common.{◌≡◌, ◌<◌, ◌+◌, ◌++◌, ◌==◌, ◌&&◌, ℕ, List, Option, Some, None, All, true, length, take, drop, append_assoc, arith, refl, sym, ap, subst, ◌∙◌, eq-eqb, inl}
use Rattle.std.specs.Prelude.{IsTrue}
use Rattle.std.proofs.Math.Seq.{take-append_seam, drop-append_seam, drop-append-add}
use Rattle.std.proofs.lemmas.List.{take-append-drop, drop-drop, length-append}
use Rattle.std.proofs.lemmas.Bool.{and_from, and_parts, false≢true}
use Rattle.uuid.specs.Text.{lower}
use Rattle.uuid.proofs.{TextLemmas.by_index_length, RoundTrips.parses_hyphenated_text}
use Rattle.base_core.specs.{Bytes.same_bytes, Guid.guid_of, Guid.guid_text}
use Rattle.base_core.proofs.Spelled.{same_is, same_refl}
use Rattle.fip_words.specs.Values.{bin, is_lower_guid, is_spelled, is_unpacked}

same_by : (xs ys : List ℕ) → xs ≡ ys → IsTrue (same_bytes xs ys)
same_by xs ys e = subst (λ (l : List ℕ). IsTrue (same_bytes xs l)) e (same_refl xs)

lower-spelled : (guid : List ℕ) → length guid ≡ 16 → All (λ b. b < 256) guid → IsTrue (is_lower_guid (guid_text guid))
unfolding is_lower_guid
lower-spelled guid len small = rw (sym (parses_hyphenated_text lower guid (inl refl) len small)) (same_refl (guid_text guid))

pub written : (prefix guid : List ℕ) → length guid ≡ 16 → All (λ b. b < 256) guid
    → is_unpacked prefix (prefix ++ guid_text guid ++ bin) ≡ true
unfolding is_unpacked
written prefix guid len small =
    let text : List ℕ = guid_text guid in
    let file : List ℕ = prefix ++ (text ++ bin) in
    let long : length text ≡ 36 = by_index_length 36 _ in
    let whole : length file ≡ length prefix + 40 = (let a = length-append prefix (text ++ bin) in let b = length-append text bin in omega arith) in
    let front : take (length prefix) file ≡ prefix = take-append_seam prefix (text ++ bin) in
    let back : drop (length prefix) file ≡ text ++ bin = drop-append_seam prefix (text ++ bin) in
    let middle : take 36 (drop (length prefix) file) ≡ text = ap (take 36) back ∙ subst (λ (n : ℕ). take n (text ++ bin) ≡ text) long (take-append_seam text bin) in
    let end : drop (length prefix + 36) file ≡ bin = drop-append-add prefix (text ++ bin) 36 ∙ subst (λ (n : ℕ). drop n (text ++ bin) ≡ bin) long (drop-append_seam text bin) in
    let lower : IsTrue (is_lower_guid (take 36 (drop (length prefix) file))) = subst (λ (l : List ℕ). IsTrue (is_lower_guid l)) (sym middle) (lower-spelled guid len small) in
    subst (λ (l : List ℕ). IsTrue (is_unpacked prefix l)) (sym (append_assoc prefix text bin))
    (and_from _ _ (and_from _ _ (and_from _ _ (eq-eqb _ _ whole) (same_by _ _ front)) lower) (same_by _ _ end))

spelled : (o : Option (List ℕ)) (text : List ℕ) → IsTrue (is_spelled o text) → (guid : List ℕ) × (guid_text guid ≡ text)
spelled None text h = absurd (false≢true h)
spelled (Some guid) text h = (guid, same_is (guid_text guid) text h)

pub only : (prefix file : List ℕ) → is_unpacked prefix file ≡ true → (guid : List ℕ) × (file ≡ prefix ++ guid_text guid ++ bin)
unfolding is_unpacked is_lower_guid
only prefix file h =
    let n = length prefix in
    let three = and_parts ((length file == n + 40) && same_bytes (take n file) prefix && is_lower_guid (take 36 (drop n file))) (same_bytes (drop (n + 36) file) bin) h in
    let two = and_parts ((length file == n + 40) && same_bytes (take n file) prefix) (is_lower_guid (take 36 (drop n file))) three.0 in
    let one = and_parts (length file == n + 40) (same_bytes (take n file) prefix) two.0 in
    let front : take n file ≡ prefix = same_is _ _ one.1 in
    let end : drop (n + 36) file ≡ bin = same_is _ _ three.1 in
    let middle = spelled (guid_of (take 36 (drop n file))) (take 36 (drop n file)) two.1 in
    let cut : take 36 (drop n file) ++ drop 36 (drop n file) ≡ drop n file = take-append-drop 36 (drop n file) in
    let whole : take n file ++ drop n file ≡ file = take-append-drop n file in
    let rest : drop 36 (drop n file) ≡ bin = drop-drop 36 n file ∙ end in
    let tail : guid_text middle.0 ++ bin ≡ drop n file = ap (λ (l : List ℕ). l ++ bin) middle.1 ∙ ap (λ (l : List ℕ). take 36 (drop n file) ++ l) (sym rest) ∙ cut in
    (middle.0, sym (append_assoc prefix (guid_text middle.0) bin ∙ ap (λ (l : List ℕ). prefix ++ l) tail ∙ ap (λ (l : List ℕ). l ++ drop n file) (sym front) ∙ whole))
