-- The command set of `fip`, as `clap` sees it.
use Rattle.std.specs.Prelude.{codes}
use Rattle.clap.specs.Words.{App, Text, new_app, with_rule}
use Rattle.clap_words.specs.Words.{option, some_words, top_app, with_leaf, word, words}

-- info FILE
abbrev pub info_app : App
info_app = with_rule (new_app (codes "info")) (word (codes "file"))

-- create [--align N] OUT [PART]..
abbrev pub create_app : App
create_app = with_rule (with_rule (with_rule (new_app (codes "create")) (option (codes "align")))
    (word (codes "out"))) (words (codes "parts"))

-- update [--align N] IN OUT PART.., and remove [--align N] IN OUT NAME..
abbrev pub change_app : Text → App
change_app name = with_rule (with_rule (with_rule (with_rule (new_app name) (option (codes "align")))
    (word (codes "in"))) (word (codes "out"))) (some_words (codes "parts"))

-- unpack IN PREFIX [NAME]..
abbrev pub unpack_app : App
unpack_app = with_rule (with_rule (with_rule (new_app (codes "unpack")) (word (codes "in")))
    (word (codes "prefix"))) (words (codes "names"))

-- manifest OUT SECURITY ROW..
abbrev pub manifest_app : App
manifest_app = with_rule (with_rule (with_rule (new_app (codes "manifest")) (word (codes "out")))
    (word (codes "security"))) (some_words (codes "rows"))

-- capsule IN OUT
abbrev pub capsule_app : App
capsule_app = with_rule (with_rule (new_app (codes "capsule")) (word (codes "in"))) (word (codes "out"))

-- package [--align N] IN OUT
abbrev pub repackage_app : App
repackage_app = with_rule (with_rule (with_rule (new_app (codes "package")) (option (codes "align")))
    (word (codes "in"))) (word (codes "out"))

-- all commands
abbrev pub fip_app : App
fip_app = with_leaf (with_leaf (with_leaf (with_leaf (with_leaf (with_leaf (with_leaf (with_leaf (top_app (codes "fip"))
    info_app) create_app) (change_app (codes "update"))) (change_app (codes "remove")))
    unpack_app) manifest_app) capsule_app) repackage_app
