-- What is read in turn, of a list of texts.
use Rattle.std.proofs.Common.{◌≡◌, ◌∙◌, ◌<◌, ◌≤◌, ◌+◌, ◌++◌, ℕ, List, [], ◌∷◌, Option, Some, None, length, map, drop, get_or, option_map, append_assoc, add-one, refl, sym, drop-cons}
use Rattle.std.proofs.lemmas.List.{append-nil, drop_all}
use Rattle.clap_words.specs.Values.{each}

-- nothing is read yet
pub none_read : {Y : Type 0} (read : List Y) (all : Option (List Y)) → read ≡ [] → option_map (λ ys. read ++ ys) all ≡ all
none_read read None e = refl
none_read read (Some ys) e = rw e refl

one_more : {Y : Type 0} (read : List Y) (y : Y) (rest : Option (List Y))
    → option_map (λ ys. (read ++ y ∷ []) ++ ys) rest ≡ option_map (λ ys. read ++ ys) (option_map (λ ys. y ∷ ys) rest)
one_more read y None = refl
one_more read y (Some ys) = rw append_assoc refl

module _ {T X Y : Type 0} (f : X → Option Y) (text : T → X) (ts : List T) (i : ℕ) (read : List Y) (all : Option (List Y)) where
  -- one more is read
  pub next_read : (d : T) (new : List Y) (y : Y) → i < length ts → Some y ≡ f (text (get_or ts i d)) → new ≡ read ++ y ∷ []
      → option_map (λ ys. read ++ ys) (each f (map text (drop i ts))) ≡ all
      → option_map (λ ys. new ++ ys) (each f (map text (drop (i + 1) ts))) ≡ all
  next_read d new y within is more so_far =
      rw (more, add-one) (one_more read y _ ∙ (let h = rw (drop-cons ts i d within, ← is) at so_far in h))

  -- the next is not read
  pub not_read : (d : T) → i < length ts → None ≡ f (text (get_or ts i d))
      → option_map (λ ys. read ++ ys) (each f (map text (drop i ts))) ≡ all → all ≡ None
  not_read d within is so_far = sym (let h = rw (drop-cons ts i d within, ← is) at so_far in h)

  -- all are read
  pub all_read : length ts ≤ i → option_map (λ ys. read ++ ys) (each f (map text (drop i ts))) ≡ all → all ≡ Some read
  all_read past so_far = sym (let h = rw (drop_all i ts past, append-nil) at so_far in h)
