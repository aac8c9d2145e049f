-- The metadata after a plan is that of the machine's state after its moves, and what is read has the length that it had.
use Rattle.std.proofs.Common.{◌≡◌, ℕ, ◌+◌, Bool, true, false, cond, List, [], ◌∷◌, ◌++◌, length, get_or, set, map, Option, Some, None, refl, sym, ap, ap₂, ◌∙◌, arith}
use Rattle.std.proofs.Math.ListN as listn
use Rattle.std.proofs.Math.Seq.{map-set_same}
use Rattle.std.proofs.lemmas.List.{length-append, map-set}
use Rattle.std.specs.Prelude.{flat_map}
use Rattle.base_core.specs.Bytes.{le, listed}
use Rattle.fwu_formats.specs.{declared.kinds.BankState.BankState, Layout.slot_bytes}
use Rattle.fwu_formats.specs.declared.kinds.BankState.TheVariants.{Invalid, Accepted}
use Rattle.fwu_formats.specs.Metadata.{Meta, state_at, bit_number}
use Rattle.fwu_model.specs.{Sound.Setting, MoveMetas.meta_in, MoveMetas.meta_after, MoveMetas.bits_in, MoveMetas.accepted_bits}
use Rattle.fwu_model.specs.State.{State, Bank, bank, no_bank, Free, Switch, Accept, after_move, freed, with_bit, state_by, all_set}
use Rattle.fwu_model.specs.Answer.{content, directory, directory_row, booted_package, version_in, held_package}

-- ---- the metadata

meta-of : (active previous : ℕ) (states others : List BankState) (bits bits' : List (List Bool)) → states ≡ others → bits ≡ bits'
    → ◌≡◌ {A = Meta} (record { active = active; previous = previous; states = states; bits = bits }) (record { active = active; previous = previous; states = others; bits = bits' })
meta-of active previous states others bits bits' p q = ap₂ (λ (x : List BankState) (y : List (List Bool)). record { active = active; previous = previous; states = x; bits = y }) p q

-- a bank is replaced
bank-set : (active previous b : ℕ) (banks : List Bank) (k : Bank) (state : BankState) (bits : List Bool) → state ≡ k.state → bits ≡ k.bits
    → ◌≡◌ {A = Meta} (record { active = active; previous = previous; states = set (map (λ (x : Bank). x.state) banks) b state; bits = set (map (λ (x : Bank). x.bits) banks) b bits })
    (record { active = active; previous = previous; states = map (λ (x : Bank). x.state) (set banks b k); bits = map (λ (x : Bank). x.bits) (set banks b k) })
bank-set active previous b banks k state bits p q =
    meta-of active previous (set (map (λ (x : Bank). x.state) banks) b state) (map (λ (x : Bank). x.state) (set banks b k)) (set (map (λ (x : Bank). x.bits) banks) b bits) (map (λ (x : Bank). x.bits) (set banks b k))
    (ap (set (map (λ (x : Bank). x.state) banks) b) p ∙ sym (map-set (λ (x : Bank). x.state) banks b k))
    (ap (set (map (λ (x : Bank). x.bits) banks) b) q ∙ sym (map-set (λ (x : Bank). x.bits) banks b k))

bits-shown : (s : State) (b : ℕ) → bits_in (meta_in s) b ≡ (bank s b).bits
bits-shown s b = listn.get_or-map (λ (k : Bank). k.bits) s.banks b no_bank

state-shown : (s : State) (b : ℕ) → state_at (meta_in s) b ≡ (bank s b).state
state-shown s b = listn.get_or-map (λ (k : Bank). k.state) s.banks b no_bank

pub meta-freed : (s : State) (b : ℕ) → meta_after (meta_in s) (Free b) ≡ meta_in (after_move s (Free b))
meta-freed s b = bank-set s.active s.previous b s.banks (freed (bank s b)) Invalid _ refl (ap (map (λ (bit : Bool). false)) (bits-shown s b))

pub meta-switched : (s : State) (b : ℕ) (p q : List (List ℕ)) (bits : List Bool) → meta_after (meta_in s) (Switch b p bits) ≡ meta_in (after_move s (Switch b q bits))
meta-switched s b p q bits = bank-set b s.active b s.banks (record { state = state_by bits; bits = bits; held = Some q }) (state_by bits) bits refl refl

pub meta-accepted : (s : State) (image : ℕ) → meta_after (meta_in s) (Accept image) ≡ meta_in (after_move s (Accept image))
meta-accepted s image =
    let bits : accepted_bits (meta_in s) image ≡ set (bank s s.active).bits image true = ap (λ (l : List Bool). set l image true) (bits-shown s s.active) in
    bank-set s.active s.previous s.active s.banks (with_bit (bank s s.active) image) _ _
    (ap₂ (λ (l : List Bool) (k : BankState). cond (all_set l) Accepted k) bits (state-shown s s.active)) bits

-- ---- the length of what is read

flat-length : (f g : ℕ → List ℕ) (xs : List ℕ) → ((x : ℕ) → length (f x) ≡ length (g x)) → length (flat_map f xs) ≡ length (flat_map g xs)
flat-length f g [] same = refl
flat-length f g (x ∷ xs) same =
    length-append (f x) (flat_map f xs) ∙ ap₂ (λ (a b : ℕ). a + b) (same x) (flat-length f g xs same) ∙ sym (length-append (g x) (flat_map g xs))

-- four numbers behind a type
pub row-length : (guid : List ℕ) (a b c d : ℕ) → length (guid ++ le 4 a ++ le 4 b ++ le 4 c ++ le 4 d) ≡ length guid + 16
row-length guid a b c d = simp length-append (omega arith)

pub directory-length : (E : Setting) (s t : State) (boot : ℕ) → length (directory E s boot) ≡ length (directory E t boot)
unfolding directory
directory-length E s t boot =
    let images = listed (length E.layout.rows) (λ (image : ℕ). image) in
    let head : List ℕ = le 4 1 ++ le 4 (length E.layout.rows) ++ le 4 32 ++ le 4 boot in
    length-append head (flat_map (directory_row E s boot) images)
    ∙ ap (λ (n : ℕ). length head + n) (flat-length (directory_row E s boot) (directory_row E t boot) images (λ i.
    let guid = (get_or E.layout.rows i (record { guid = []; slots = 0 })).guid in
    row-length guid (slot_bytes E.layout i) (length (get_or (booted_package s boot) i [])) (version_in (booted_package s boot) i) (bit_number (get_or (bank s boot).bits i false))
    ∙ sym (row-length guid (slot_bytes E.layout i) (length (get_or (booted_package t boot) i [])) (version_in (booted_package t boot) i) (bit_number (get_or (bank t boot).bits i false)))))
    ∙ sym (length-append head (flat_map (directory_row E t boot) images))

-- where each bank holds what it held
pub content-length : (E : Setting) (s t : State) (boot : ℕ) (image : Option ℕ) → (bank t boot).held ≡ (bank s boot).held → length (content E t boot image) ≡ length (content E s boot image)
content-length E s t boot None same = directory-length E t s boot
content-length E s t boot (Some image) same = ap (λ (o : Option (List (List ℕ))). length (get_or (held_package o) image [])) same

pub held-accepted : (s : State) (image b : ℕ) → (bank (after_move s (Accept image)) b).held ≡ (bank s b).held
held-accepted s image b =
    let k = with_bit (bank s s.active) image in
    sym (listn.get_or-map (λ (x : Bank). x.held) (set s.banks s.active k) b no_bank)
    ∙ ap (λ (l : List (Option (List (List ℕ)))). get_or l b None) (map-set_same (λ (x : Bank). x.held) s.banks s.active k no_bank refl)
    ∙ listn.get_or-map (λ (x : Bank). x.held) s.banks b no_bank
