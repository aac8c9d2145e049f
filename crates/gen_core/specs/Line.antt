-- What a soak prints: one line at its end.
use Rattle.std.specs.Prelude.{ℕ, Bool, true, false, List, ◌++◌, length, codes, decimal, count_by, fold}
use Rattle.fwu_model.specs.{Causes.is_lost, Reply.Reply, Reply.Turn}
use Rattle.fwu_model.specs.Reply as reply
use Rattle.gen_core.specs.declared.line.Totals.{Totals}

abbrev pub is_booted : Reply → Bool
is_booted (reply.Booted bank version trials counter fallback) = true
is_booted other = false

abbrev pub is_fallback : Reply → Bool
is_fallback (reply.Booted bank version trials counter fallback) = fallback
is_fallback other = false

-- a package that was sent and installed
abbrev pub is_sent : Reply → Bool
is_sent (reply.Sent images skipped) = true
is_sent (reply.SentPartial images skipped copied) = true
is_sent other = false

abbrev pub count_of : (Reply → Bool) → List Turn → ℕ
count_of test journal = count_by (λ turn. test turn.reply) journal

-- the numbers of the last boot that was answered with a bank
pub record LastStart : Type 0 where
  pub bank : ℕ
  pub version : ℕ
  pub counter : ℕ

-- the numbers of this reply where it is a boot's, else those of an earlier one
abbrev pub start_after : LastStart → Reply → LastStart
start_after last (reply.Booted bank version trials counter fallback) = record { bank = bank; version = version; counter = counter }
start_after last other = last

-- each is 0 where no boot was answered with a bank
abbrev pub last_started : List Turn → LastStart
last_started journal = fold (λ last turn. start_after last turn.reply) (record { bank = 0; version = 0; counter = 0 }) journal

-- what the line tells of the turns that were done
unfoldable pub totals_of : List Turn → Totals
totals_of journal = record {
  turns = length journal;
  boots = count_of is_booted journal;
  losses = count_of is_lost journal;
  fallbacks = count_of is_fallback journal;
  sends = count_of is_sent journal;
  bank = (last_started journal).bank;
  version = (last_started journal).version;
  counter = (last_started journal).counter;
}

abbrev pub field : List ℕ → ℕ → List ℕ
field name n = name ++ decimal n

abbrev pub counts_text : Totals → List ℕ
counts_text t = field (codes " turns=") t.turns ++ field (codes " boots=") t.boots ++ field (codes " losses=") t.losses
    ++ field (codes " fallbacks=") t.fallbacks ++ field (codes " sends=") t.sends

abbrev pub last_text : Totals → List ℕ
last_text t = field (codes " bank=") t.bank ++ field (codes " version=") t.version ++ field (codes " counter=") t.counter

-- the line for so many rounds that were asked for
abbrev pub totals_line : ℕ → Totals → List ℕ
totals_line rounds t = field (codes "soak rounds=") rounds ++ counts_text t ++ last_text t ++ codes "\n"

abbrev pub soak_line : ℕ → List Turn → List ℕ
soak_line rounds journal = totals_line rounds (totals_of journal)

-- the line of a flash that is too small
abbrev pub too_small_line : List ℕ
too_small_line = codes "soak too-small\n"
