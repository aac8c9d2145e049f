-- Plain words are taken as they stand.
use Rattle.std.proofs.Common.{◌≡◌, [], ◌∷◌, Some, None, refl, codes}
use Rattle.clap.specs.Words.{Text}
use Rattle.clap.proofs.OnLiterals.{clap_on_literals}
use Rattle.fwu_words.specs.Order.{asked, format_by, soak_by}
use Rattle.clap_words.specs.Plain.{IsPlain}
use Rattle.clap_words.proofs.NoFlags.{IsNoFlag, plain_is_no_flag}
use Rattle.fwu_words.specs.Values.{banks_of, file_named, number_read, rows_of}

format_taken : (a b : Text) → IsNoFlag a → IsNoFlag b → asked (codes "format" ∷ a ∷ b ∷ []) ≡ format_by (Some 2) (rows_of a) (file_named b)
unfolding clap_on_literals
format_taken a b p q = rw (p.long, p.short, p.dashes, q.long, q.short, q.dashes) refl

banks_taken : (n a b : Text) → IsNoFlag n → IsNoFlag a → IsNoFlag b
    → asked (codes "format" ∷ codes "--banks" ∷ n ∷ a ∷ b ∷ []) ≡ format_by (banks_of (Some n)) (rows_of a) (file_named b)
unfolding clap_on_literals
banks_taken n a b o p q = rw (o.long, o.short, o.dashes, p.long, p.short, p.dashes, q.long, q.short, q.dashes) refl

pub plain_format : (a b : Text) → IsPlain a → IsPlain b → asked (codes "format" ∷ a ∷ b ∷ []) ≡ format_by (Some 2) (rows_of a) (file_named b)
plain_format a b p q = format_taken a b (plain_is_no_flag a p) (plain_is_no_flag b q)

pub plain_banks : (n a b : Text) → IsPlain n → IsPlain a → IsPlain b
    → asked (codes "format" ∷ codes "--banks" ∷ n ∷ a ∷ b ∷ []) ≡ format_by (banks_of (Some n)) (rows_of a) (file_named b)
plain_banks n a b o p q = banks_taken n a b (plain_is_no_flag n o) (plain_is_no_flag a p) (plain_is_no_flag b q)

soak_taken : (s n : Text) → IsNoFlag s → IsNoFlag n → asked (codes "soak" ∷ s ∷ n ∷ []) ≡ soak_by (number_read s) (number_read n)
unfolding clap_on_literals
soak_taken s n p q = rw (p.long, p.short, p.dashes, q.long, q.short, q.dashes) refl

seed_refused : (s : Text) → IsNoFlag s → asked (codes "soak" ∷ s ∷ []) ≡ None
unfolding clap_on_literals
seed_refused s p = rw (p.long, p.short, p.dashes) refl

third_refused : (s n t : Text) → IsNoFlag s → IsNoFlag n → IsNoFlag t → asked (codes "soak" ∷ s ∷ n ∷ t ∷ []) ≡ None
unfolding clap_on_literals
third_refused s n t p q r = rw (p.long, p.short, p.dashes, q.long, q.short, q.dashes, r.long, r.short, r.dashes) refl

more_refused : (t : Text) → IsNoFlag t → asked (codes "serve" ∷ t ∷ []) ≡ None
unfolding clap_on_literals
more_refused t p = rw (p.long, p.short, p.dashes) refl

pub plain_soak : (s n : Text) → IsPlain s → IsPlain n → asked (codes "soak" ∷ s ∷ n ∷ []) ≡ soak_by (number_read s) (number_read n)
plain_soak s n p q = soak_taken s n (plain_is_no_flag s p) (plain_is_no_flag n q)

pub plain_seed : (s : Text) → IsPlain s → asked (codes "soak" ∷ s ∷ []) ≡ None
plain_seed s p = seed_refused s (plain_is_no_flag s p)

pub plain_third : (s n t : Text) → IsPlain s → IsPlain n → IsPlain t → asked (codes "soak" ∷ s ∷ n ∷ t ∷ []) ≡ None
plain_third s n t p q r = third_refused s n t (plain_is_no_flag s p) (plain_is_no_flag n q) (plain_is_no_flag t r)

pub plain_more : (t : Text) → IsPlain t → asked (codes "serve" ∷ t ∷ []) ≡ None
plain_more t p = more_refused t (plain_is_no_flag t p)
