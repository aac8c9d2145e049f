use Rattle.std.proofs.Common.{◌≡◌, [], ◌∷◌, ◌++◌, List, map, ap, ◌∙◌, append_assoc}
use Rattle.std.proofs.lemmas.List.{map-append}
use Rattle.fwu_model.specs.Call.{Call}
use Rattle.gen_core.specs.{Calls.round_calls, Calls.shown, declared.calls.SoakCall.SoakCall}
use Rattle.gen_core.proofs.calls.add_calls.Goals as goal

in-order : (a b c d e : List SoakCall) (x y : SoakCall) (cut ends : List Call) → map shown b ≡ map shown a ++ cut → c ≡ b ++ x ∷ [] → d ≡ c ++ y ∷ []
    → map shown e ≡ map shown d ++ ends
    → map shown e ≡ map shown a ++ (cut ++ (shown x ∷ shown y ∷ ends))
in-order a b c d e x y cut ends p q r t =
    t ∙ ap (λ (l : List SoakCall). map shown l ++ ends) (r ∙ ap (λ (l : List SoakCall). l ++ y ∷ []) q)
    ∙ ap (λ (l : List Call). l ++ ends) (map-append shown (b ++ x ∷ []) (y ∷ [])
    ∙ ap (λ (l : List Call). l ++ shown y ∷ []) (map-append shown b (x ∷ []) ∙ ap (λ (l : List Call). l ++ shown x ∷ []) p))
    ∙ append_assoc ((map shown a ++ cut) ++ shown x ∷ []) (shown y ∷ []) ends ∙ append_assoc (map shown a ++ cut) (shown x ∷ []) (shown y ∷ ends)
    ∙ append_assoc (map shown a) cut (shown x ∷ shown y ∷ ends)

pub returns : goal.returns
unfolding round_calls
returns c = in-order _ _ _ _ _ _ _ _ _ c.in_ok-add_cut.ensures c.in_ok-push.ensures.items c.in_ok-push-2.ensures.items c.in_ok-add_ending.ensures
