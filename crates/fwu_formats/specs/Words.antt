-- Words: the numbers, bytes, types and names of files that a word of a script or of a command line spells.
use Rattle.std.specs.Prelude.{ℕ, ◌+◌, ◌-◌, ◌*◌, Bool, ◌&&◌, ◌==◌, nat_le, if◌then◌else◌, List, [], length, Option, Some, None, option_and_then, Result, Ok, Err, codes, decimal, fold}
use Rattle.std.specs.List.{list_all}
use Rattle.base_core.specs.{Bytes.same_bytes, Guid.guid_of}
use Rattle.hex.specs.{Hex.decode_of, declared.error.FromHexError.FromHexError}

abbrev pub is_word : List ℕ → List ℕ → Bool
is_word w text = same_bytes w text

-- the number that digits spell
abbrev pub digits_value : List ℕ → ℕ
digits_value w = fold (λ n c. 10 * n + (c - 48)) 0 w

-- a number of 32 bits in its one spelling
abbrev pub number_of : List ℕ → Option ℕ
number_of w = if nat_le (length w) 10 && nat_le (digits_value w) 4294967295
    && same_bytes w (decimal (digits_value w)) then Some (digits_value w) else None

-- a number that isn't above a limit
abbrev pub number_up_to : ℕ → List ℕ → Option ℕ
number_up_to limit w = option_and_then (λ n. if nat_le n limit then Some n else None) (number_of w)

-- a number that isn't zero
abbrev pub at_least_one : ℕ → Option ℕ
at_least_one n = if n == 0 then None else Some n

abbrev pub ok_bytes : Result (List ℕ) FromHexError → Option (List ℕ)
ok_bytes (Ok bytes) = Some bytes
ok_bytes (Err e) = None

-- `-` for no bytes, or at least two digits
abbrev pub bytes_of : List ℕ → Option (List ℕ)
bytes_of w = if is_word w (codes "-") then Some [] else if length w == 0 then None else ok_bytes (decode_of w)

abbrev pub is_file : List ℕ → Bool
is_file w = nat_le 1 (length w) && nat_le (length w) 255 && list_all (λ b. nat_le 0x21 b && nat_le b 0x7E) w

abbrev pub file_word_of : List ℕ → Option (List ℕ)
file_word_of w = if is_file w then Some w else None

-- the types that have a name
abbrev pub named : List ℕ → Option (List ℕ)
named w =
    if is_word w (codes "tb-fw") then guid_of (codes "5ff9ec0b-4d22-3e4d-a544-c39d81c73f0a")
    else if is_word w (codes "soc-fw") then guid_of (codes "47d4086d-4cfe-9846-9b95-2950cbbd5a00")
    else if is_word w (codes "tos-fw") then guid_of (codes "05d0e189-53dc-1347-8d2b-500a4b7a3e38")
    else if is_word w (codes "nt-fw") then guid_of (codes "d6d0eea7-fcea-d54b-9782-9934f234b6e4")
    else if is_word w (codes "manifest") then guid_of (codes "4657554d-414e-4946-4553-540000000001")
    else if is_word w (codes "dir") then guid_of (codes "46575544-4952-4543-544f-525900000001")
    else guid_of w

-- `now` is request 0 and `trial` 1
abbrev pub request_of : List ℕ → Option ℕ
request_of w = if is_word w (codes "now") then Some 0 else if is_word w (codes "trial") then Some 1 else None
