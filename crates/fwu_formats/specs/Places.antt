-- Where things lie on a flash: which block holds what, and how many marks of a block count.
use Rattle.std.specs.Prelude.{ℕ}

abbrev pub layout_block : ℕ
layout_block = 0

-- the two replicas of the metadata
abbrev pub first_replica : ℕ
first_replica = 1

abbrev pub second_replica : ℕ
second_replica = 2

-- marks of the starts on trial, and marks of the counter
abbrev pub trial_block : ℕ
trial_block = 3

abbrev pub counter_block : ℕ
counter_block = 4

-- the two records of the counter
abbrev pub first_record : ℕ
first_record = 5

abbrev pub second_record : ℕ
second_record = 6

-- the banks begin here, and the blocks before it are the front
abbrev pub first_bank_block : ℕ
first_bank_block = 8

-- so many starts on trial there are, and so many marks of the counter
abbrev pub trial_limit : ℕ
trial_limit = 3

abbrev pub counter_limit : ℕ
counter_limit = 223
