-- What a writing and a line leave.
use Rattle.std.proofs.Common.{◌≡◌, sym, subst, ◌∙◌, ℕ, List, [], ◌∷◌, Option, Result, Ok, Err, length, refl, ap, append-nil}
use Rattle.fip_tool.specs.Tool.{puts}
use Rattle.fip_tool.specs.Steps.{MayTear, NoneUnwritten, Makes, CommandStep, Writes, Prints, Are, Did, PrintedText, outcome_by, with_file}
use Rattle.fip_making.proofs.Tables.{rose-still}
use Rattle.std.specs.Io.KnownBytes.{Appends}
use Rattle.host_io.specs.{Contents.Directory, declared.joining.Piece.Piece}
use Rattle.host_io.specs.declared.writes.Writes as count
use Rattle.fip_making.specs.{Payloads.joined_pieces, Payloads.made_bytes, declared.made.Made.Made, declared.stops.Stop.Stop}
use Rattle.fip_making.specs.declared.stops.Stop.TheVariants as stop
use Rattle.fip_tool.proofs.{Did.made-steps, Texts.appends-same}

-- ---- files that may be torn

-- what may be torn since no write was made, or since none failed
pub tears-since : {mid before : count.Writes} (after : count.Writes) → mid ≡ before → MayTear mid after → MayTear before after
tears-since after same tears = subst (λ (w : count.Writes). MayTear w after) same tears

pub tears-still : (before mid after : count.Writes) → NoneUnwritten before mid → MayTear mid after → MayTear before after
tears-still before mid after none tears = (rose-still _ _ _ (sym none.0) tears.0, rose-still _ _ _ (sym none.1) tears.1)

pub none-unwritten : (before mid after : count.Writes) → NoneUnwritten before mid → NoneUnwritten mid after → NoneUnwritten before after
none-unwritten before mid after first next = (next.0 ∙ first.0, next.1 ∙ first.1)

-- ---- what a writing and a line leave

-- what a frame's and pieces' slices make
pub joined-made : (files : Directory) (m : Made) (frame : List ℕ) (pieces : List Piece) → frame ≡ m.frame.bytes.items → pieces ≡ m.pieces.items → joined_pieces files frame pieces ≡ made_bytes files m
joined-made files m frame pieces f p = ap (λ (l : List ℕ). joined_pieces files l pieces) f ∙ ap (joined_pieces files m.frame.bytes.items) p

pub then-printed : (files : Directory) (now : Option Directory) (was text : Option (List ℕ)) (files-rose spoiled sink-rose : Type 0) (name bytes line : List ℕ) (r : Result (Unit {0}) Stop)
    → Are now (with_file name bytes files) → PrintedText was text sink-rose line r → Did (Makes (Writes name bytes ∷ Prints line ∷ [])) files now was text files-rose spoiled sink-rose r
then-printed files now was text files-rose spoiled sink-rose name bytes line (Ok u) w p = (refl, w, subst (Appends was text) (sym (append-nil line)) p)
then-printed files now was text files-rose spoiled sink-rose name bytes line (Err stop.SinkFault) w p =
    (p.0, 1, w, p.1, p.2, tt)
then-printed files now was text files-rose spoiled sink-rose name bytes line (Err stop.NoMemory) w p = (1, w, appends-same was text p)
then-printed files now was text files-rose spoiled sink-rose name bytes line (Err s) w p = absurd p

-- the file and the line of what was made
pub made-put : (line-of : ℕ → ℕ → List ℕ) (files : Directory) (out : List ℕ) (value : Result (ℕ × List ℕ) Stop) (made : ℕ × List ℕ) (bytes line : List ℕ) (now : Option Directory)
    (was text : Option (List ℕ)) (rose late spoiled spoiled-late sink-rose : Type 0) (r : Result (Unit {0}) Stop) → value ≡ Ok made → bytes ≡ made.1 → line ≡ line-of made.0 (length made.1)
    → (rose → late) → (spoiled → spoiled-late) → Did (Makes (Writes out bytes ∷ Prints line ∷ [])) files now was text rose spoiled sink-rose r
    → Did (outcome_by (puts line-of out) value) files now was text late spoiled-late sink-rose r
made-put line-of files out value made bytes line now was text rose late spoiled spoiled-late sink-rose r v same said rises spoils did =
    let steps : Writes out bytes ∷ Prints line ∷ [] ≡ puts line-of out made =
    ap (λ (l : List ℕ). Writes out l ∷ Prints line ∷ []) same ∙ ap (λ (l : List ℕ). Writes out made.1 ∷ Prints l ∷ []) said in
    made-steps (puts line-of out) value made files now was text rose late spoiled spoiled-late sink-rose r v rises spoils
    (subst (λ (steps : List CommandStep). Did (Makes steps) files now was text rose spoiled sink-rose r) steps did)
