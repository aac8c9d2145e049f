use Rattle.std.proofs.Common.{◌≡◌, ◌∙◌, List, ℕ, codes, string_bytes, sym, subst}
use Rattle.std.specs.Prelude.{IsTrue}
use Rattle.base_core.proofs.Spelled.{same_is}
use Rattle.fwu_formats.specs.Words.{is_file}
use Rattle.fwu_words.proofs.AllowLemmas.{front_two}
use Rattle.fwu_words.proofs.allow.allow_of.Goals as goal

pub returns-then-is_file_name : goal.returns-then-is_file_name
returns-then-is_file_name c =
    let first : string_bytes c.first-item-2.result ≡ codes "--allow" = sym c.as_bytes-in-len2-up.ensures.value ∙ same_is _ _ (sym c.if-not-is_word.ensures) in
    let name : string_bytes c.name-item.result ≡ c.deref.result.now = sym c.deref.ensures in
    let file : IsTrue (is_file c.as_bytes-else-not-is_word.result.now) = sym c.if-is_file_name.ensures in
    record {
      whole = front_two string_bytes c.args.words.now c.first-item-2.result c.name-item.result (codes "--allow") c.deref.result.now
          c.in-len2-up.len_at_least c.first-item-2.is c.name-item.is first name;
      file = subst (λ (l : List ℕ). IsTrue (is_file l)) (c.as_bytes-else-not-is_word.ensures.value ∙ name) file;
    }
