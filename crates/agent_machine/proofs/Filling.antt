-- The machine's answers while an image of a staging is opened, written through handle 1 and committed.
use Rattle.std.proofs.Common.{◌≡◌, cond, ℕ, ◌+◌, ◌<◌, ◌≤◌, Bool, List, [], ◌++◌, length, get_or, set, Some, ap, ◌∙◌, get_or-set_same}
use Rattle.std.proofs.lemmas.Bool.{le-ltb}
use Rattle.std.proofs.lemmas.List.{set-set}
use Rattle.std.specs.Prelude.{nat_lt, ◌==◌, ◌||◌}
use Rattle.fwu_formats.specs.Layout.{slot_bytes, find_image}
use Rattle.fwu_model.specs.{State.State, Sound.Setting}
use Rattle.fwu_model.specs.Session.{On, Staged, Nothing, Open, Committed, Writes, no_handles, is_open, is_committed}
use Rattle.fwu_model.specs.Answer.{answer, answered, refused, opened, appended, staged_bytes, is_full, answer_open_write, open_image, answer_write, answer_commit}
use Rattle.fwu_model.specs.declared.kinds.Status.TheVariants as status
use Rattle.fwu_model.specs.Call as call
use Rattle.fwu_model.specs.Reply as reply
use Rattle.agent_machine.specs.Filling.{between, within, filled}

module _ (E : Setting) (s : State) (boot : ℕ) (parts : List Staged) (image : ℕ) where
  open-image-at : get_or parts image Nothing ≡ Nothing
      → open_image boot parts no_handles image ≡ answered (reply.Opened 1) [] (within boot parts image [])
  open-image-at none =
      ap (λ (p : Staged). cond (is_committed p) (refused status.Denied (On boot (Some parts) no_handles))
      (cond (is_open p || is_full no_handles) (refused status.Busy (On boot (Some parts) no_handles))
      (opened boot (Some (set parts image (Open []))) no_handles (Writes image)))) none

  pub open-answers : (guid : List ℕ) → find_image E.layout.rows guid ≡ Some image → get_or parts image Nothing ≡ Nothing
      → answer E s (between boot parts) (call.OpenWrite guid) ≡ answered (reply.Opened 1) [] (within boot parts image [])
  unfolding answer answer_open_write
  open-answers guid found none = ap (answer_open_write E boot (Some parts) no_handles guid) found ∙ open-image-at none

  module _ (below : image < length parts) where
    opened-there : (bytes : List ℕ) → get_or (set parts image (Open bytes)) image Nothing ≡ Open bytes
    opened-there bytes = get_or-set_same parts image (Open bytes) Nothing below

    pub write-answers : (bytes more : List ℕ) → length bytes + length more ≤ slot_bytes E.layout image
        → answer E s (within boot parts image bytes) (call.Write 1 more) ≡ answered reply.Success [] (within boot parts image (bytes ++ more))
    unfolding answer answer_write
    write-answers bytes more room =
        let handles = set no_handles 0 (Writes image) in
        let now = set parts image (Open bytes) in
        ap (λ (p : Staged). cond (nat_lt (slot_bytes E.layout image) (length (staged_bytes p) + length more))
        (refused status.OutOfBounds (On boot (Some now) handles)) (answered reply.Success []
        (On boot (Some (set now image (appended p more))) handles))) (opened-there bytes)
        ∙ ap (λ (b : Bool). cond b (refused status.OutOfBounds (On boot (Some now) handles))
        (answered reply.Success [] (On boot (Some (set now image (Open (bytes ++ more)))) handles)))
        (le-ltb (slot_bytes E.layout image) (length bytes + length more) room)
        ∙ ap (λ (ps : List Staged). answered reply.Success [] (On boot (Some ps) handles)) (set-set parts image (Open bytes) (Open (bytes ++ more)))

    pub commit-answers : (bytes : List ℕ) (request : ℕ)
        → answer E s (within boot parts image bytes) (call.Commit 1 request) ≡ answered reply.Success [] (between boot (filled parts image bytes (request == 0)))
    unfolding answer answer_commit
    commit-answers bytes request =
        let now = set parts image (Open bytes) in
        ap (λ (p : Staged). answered reply.Success [] (On boot (Some (set now image (Committed (staged_bytes p) (request == 0)))) no_handles))
        (opened-there bytes)
        ∙ ap (λ (ps : List Staged). answered reply.Success [] (On boot (Some ps) no_handles)) (set-set parts image (Open bytes) (Committed bytes (request == 0)))
