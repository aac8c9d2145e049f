-- Calls in a row, and the calls that a partial begin is.
use Rattle.std.specs.Prelude.{◌≡◌, ℕ, ◌+◌, ◌-◌, ◌*◌, ◌/◌, Bool, true, false, if◌then◌else◌, List, [], ◌∷◌, ◌++◌, length, take, drop, map, flat_map, IsTrue, slice_index_or}
use Rattle.std.specs.List.{list_all, range_with_len}
use Rattle.base_core.specs.Block.{block_bytes}
use Rattle.fwu_model.specs.{State.State, State.Move, State.after, Sound.Setting, Session.Session, Reply.Reply, Reply.Call}
use Rattle.fwu_model.specs.Answer.{Answer, answer, are_named, type_of_image, image_held}
use Rattle.fwu_model.specs.Call as call
use Rattle.fwu_model.specs.Reply as reply

-- the replies to calls in a row, their moves, and the session after them
abbrev pub replies_of : Setting → State → Session → List Call → List Reply
replies_of E s x [] = []
replies_of E s x (c ∷ cs) = (answer E s x c).reply ∷ replies_of E (after s (answer E s x c).moves) (answer E s x c).next cs

abbrev pub moves_of : Setting → State → Session → List Call → List Move
moves_of E s x [] = []
moves_of E s x (c ∷ cs) = (answer E s x c).moves ++ moves_of E (after s (answer E s x c).moves) (answer E s x c).next cs

abbrev pub session_of : Setting → State → Session → List Call → Session
session_of E s x [] = x
session_of E s x (c ∷ cs) = session_of E (after s (answer E s x c).moves) (answer E s x c).next cs

-- done, with no more to tell than the number of a handle
abbrev pub is_done : Reply → Bool
is_done reply.Success = true
is_done (reply.Opened handle) = true
is_done other = false

-- Calls in a row come to an answer: each is done, and together they have its moves and leave its session.
pub record ComeTo (E : Setting) (s : State) (x : Session) (calls : List Call) (a : Answer) : Type 0 where
  pub done : IsTrue (list_all is_done (replies_of E s x calls))
  pub moves : moves_of E s x calls ≡ a.moves
  pub session : session_of E s x calls ≡ a.next

-- ---- a partial begin, call by call

-- the pieces in which bytes are copied: a block's bytes each, but for the last
abbrev pub piece_count : List ℕ → ℕ
piece_count bytes = (length bytes + (block_bytes - 1)) / block_bytes

abbrev pub piece : List ℕ → ℕ → List ℕ
piece bytes k = take block_bytes (drop (block_bytes * k) bytes)

-- an image is opened for writing, written piece by piece, and committed as accepted
abbrev pub copy_calls : List ℕ → List ℕ → List Call
copy_calls guid bytes =
    call.OpenWrite guid ∷ (map (λ k. call.Write 1 (piece bytes k)) (range_with_len 0 (piece_count bytes)) ++ call.Commit 1 0 ∷ [])

abbrev pub copy_unless : Bool → List ℕ → List ℕ → List Call
copy_unless named guid bytes = if named then [] else copy_calls guid bytes

-- a begin, and then each image that isn't named is copied from the active bank, in the layout's order
abbrev pub begin_calls : Setting → State → List (List ℕ) → List Call
begin_calls E s types =
    call.Begin 0 ∷ flat_map (λ i. copy_unless (slice_index_or (are_named E.layout.rows types) i true)
    (type_of_image E.layout.rows i)
    (image_held s s.active i)) (range_with_len 0 (length E.layout.rows))
