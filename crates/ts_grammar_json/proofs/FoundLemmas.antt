-- Members found in one pass: what was found so far, and then the rest of the object.
use Rattle.std.proofs.Common.{◌≡◌, ◌∙◌, sym, ap, refl, ℕ, ◌+◌, ◌<◌, suc, add-one, Bool, true, false, cond, length, get_or, drop, drop-cons, List, [], ◌∷◌, Option, Some, None, codes}
use Rattle.std.specs.Str.{bytes_eq}
use Rattle.ts_base.specs.Bytes.{Bytes}
use Rattle.ts_ojson.specs.declared.value.OJson.{OJson}
use Rattle.ts_ojson.specs.Json.{Json, json_of, Members, no_members, member}
use Rattle.ts_grammar_json.specs.Members.{find, members_json}
use Rattle.ts_grammar_json.specs.Rules.{Looked, looked}
use Rattle.ts_grammar_json.specs.File.{FileMembers, file_members}
use Rattle.ts_grammar_json.specs.Found.{noted, looked_and, file_and}

abbrev pub or_find : Option Json → Bytes → Members → Option Json
or_find (Some before) wanted ms = Some before
or_find None wanted ms = find wanted ms

-- the members that were found, and in their stead where there are none those of the rest
abbrev pub looked_on : Looked → Members → Looked
looked_on before ms = record {
  kind = or_find before.kind (codes "type") ms;
  value = or_find before.value (codes "value") ms;
  flags = or_find before.flags (codes "flags") ms;
  name = or_find before.name (codes "name") ms;
  members = or_find before.members (codes "members") ms;
  content = or_find before.content (codes "content") ms;
  named = or_find before.named (codes "named") ms;
}

one_more : (before : Option Json) (wanted name : Bytes) (value : Json) (ms : Members) → or_find (noted before wanted name value) wanted ms ≡ or_find before wanted (member name value ms)
one_more (Some before) wanted name value ms = refl
one_more None wanted name value ms = by (bytes_eq name wanted)
  where
    by : (b : Bool) → or_find (cond b (Some value) None) wanted ms ≡ cond b (Some value) (find wanted ms)
    by true = refl
    by false = refl

made : (kind value flags name members content named : Option Json) → Looked
made kind value flags name members content named = record { kind = kind; value = value; flags = flags; name = name; members = members; content = content; named = named }

same_made : (a b : Looked) → a.kind ≡ b.kind → a.value ≡ b.value → a.flags ≡ b.flags → a.name ≡ b.name → a.members ≡ b.members → a.content ≡ b.content → a.named ≡ b.named
    → made a.kind a.value a.flags a.name a.members a.content a.named ≡ made b.kind b.value b.flags b.name b.members b.content b.named
same_made a b kind value flags name members content named = cc

same_looked : (a b : Looked) → a.kind ≡ b.kind → a.value ≡ b.value → a.flags ≡ b.flags → a.name ≡ b.name → a.members ≡ b.members → a.content ≡ b.content → a.named ≡ b.named → a ≡ b
unfolding made
same_looked a b kind value flags name members content named = same_made a b kind value flags name members content named

-- with one more member, and the rest behind it
looked_more : (before : Looked) (name : Bytes) (value : Json) (ms : Members) → looked_on (looked_and before name value) ms ≡ looked_on before (member name value ms)
looked_more before name value ms =
    same_looked (looked_on (looked_and before name value) ms) (looked_on before (member name value ms))
    (one_more before.kind (codes "type") name value ms) (one_more before.value (codes "value") name value ms) (one_more before.flags (codes "flags") name value ms) (one_more before.name (codes "name") name value ms)
    (one_more before.members (codes "members") name value ms) (one_more before.content (codes "content") name value ms) (one_more before.named (codes "named") name value ms)

find_end : (before : Option Json) (wanted : Bytes) → or_find before wanted no_members ≡ before
find_end (Some before) wanted = refl
find_end None wanted = refl

looked_end : (before : Looked) → looked_on before no_members ≡ before
looked_end before =
    same_looked (looked_on before no_members) before
    (find_end before.kind (codes "type")) (find_end before.value (codes "value")) (find_end before.flags (codes "flags")) (find_end before.name (codes "name"))
    (find_end before.members (codes "members")) (find_end before.content (codes "content")) (find_end before.named (codes "named"))

pub members_split : (all : List (Bytes × OJson)) (i : ℕ) (m : Bytes × OJson) → i < length all → m ≡ get_or all i m
    → members_json (drop i all) ≡ member m.0 (json_of m.1) (members_json (drop (i + 1) all))
members_split all i m lt at =
    ap members_json (drop-cons all i m lt ∙ ap (λ (y : Bytes × OJson). y ∷ drop (suc i) all) (sym at)) ∙ ap (λ (k : ℕ). member m.0 (json_of m.1) (members_json (drop k all))) (sym (add-one i))

pub found_step : (all : List (Bytes × OJson)) (i : ℕ) (m : Bytes × OJson) (before after : Looked) → i < length all → m ≡ get_or all i m
    → after ≡ looked_and before m.0 (json_of m.1)
    → looked (members_json all) ≡ looked_on before (members_json (drop i all)) → looked (members_json all) ≡ looked_on after (members_json (drop (i + 1) all))
found_step all i m before after lt at is so_far =
    so_far
    ∙ ap (looked_on before) (members_split all i m lt at)
    ∙ sym (looked_more before m.0 (json_of m.1) (members_json (drop (i + 1) all)))
    ∙ ap (λ (x : Looked). looked_on x (members_json (drop (i + 1) all))) (sym is)

pub found_end : (all : List (Bytes × OJson)) (i : ℕ) (before : Looked) → drop i all ≡ []
    → looked (members_json all) ≡ looked_on before (members_json (drop i all)) → before ≡ looked (members_json all)
found_end all i before over so_far = sym (so_far ∙ ap (λ (ms : List (Bytes × OJson)). looked_on before (members_json ms)) over ∙ looked_end before)

-- ---- the same of a file's members

abbrev pub file_on : FileMembers → Members → FileMembers
file_on before ms = record {
  name = or_find before.name (codes "name") ms;
  rules = or_find before.rules (codes "rules") ms;
  word = or_find before.word (codes "word") ms;
  extras = or_find before.extras (codes "extras") ms;
  conflicts = or_find before.conflicts (codes "conflicts") ms;
  precedences = or_find before.precedences (codes "precedences") ms;
  externals = or_find before.externals (codes "externals") ms;
  reserved = or_find before.reserved (codes "reserved") ms;
  inline = or_find before.inline (codes "inline") ms;
  supertypes = or_find before.supertypes (codes "supertypes") ms;
}

file_made : (name rules word extras conflicts precedences externals reserved inline supertypes : Option Json) → FileMembers
file_made name rules word extras conflicts precedences externals reserved inline supertypes = record { name = name; rules = rules; word = word; extras = extras; conflicts = conflicts; precedences = precedences; externals = externals; reserved = reserved; inline = inline; supertypes = supertypes }

same_file_made : (a b : FileMembers) → a.name ≡ b.name → a.rules ≡ b.rules → a.word ≡ b.word → a.extras ≡ b.extras → a.conflicts ≡ b.conflicts → a.precedences ≡ b.precedences → a.externals ≡ b.externals → a.reserved ≡ b.reserved → a.inline ≡ b.inline → a.supertypes ≡ b.supertypes
    → file_made a.name a.rules a.word a.extras a.conflicts a.precedences a.externals a.reserved a.inline a.supertypes
    ≡ file_made b.name b.rules b.word b.extras b.conflicts b.precedences b.externals b.reserved b.inline b.supertypes
same_file_made a b name rules word extras conflicts precedences externals reserved inline supertypes = cc

pub same_file : (a b : FileMembers) → a.name ≡ b.name → a.rules ≡ b.rules → a.word ≡ b.word → a.extras ≡ b.extras → a.conflicts ≡ b.conflicts → a.precedences ≡ b.precedences → a.externals ≡ b.externals → a.reserved ≡ b.reserved → a.inline ≡ b.inline → a.supertypes ≡ b.supertypes → a ≡ b
unfolding file_made
same_file a b name rules word extras conflicts precedences externals reserved inline supertypes = same_file_made a b name rules word extras conflicts precedences externals reserved inline supertypes

file_more : (before : FileMembers) (key : Bytes) (value : Json) (ms : Members) → file_on (file_and before key value) ms ≡ file_on before (member key value ms)
file_more before key value ms =
    same_file (file_on (file_and before key value) ms) (file_on before (member key value ms))
    (one_more before.name (codes "name") key value ms)
    (one_more before.rules (codes "rules") key value ms)
    (one_more before.word (codes "word") key value ms)
    (one_more before.extras (codes "extras") key value ms)
    (one_more before.conflicts (codes "conflicts") key value ms)
    (one_more before.precedences (codes "precedences") key value ms)
    (one_more before.externals (codes "externals") key value ms)
    (one_more before.reserved (codes "reserved") key value ms)
    (one_more before.inline (codes "inline") key value ms)
    (one_more before.supertypes (codes "supertypes") key value ms)

file_end : (before : FileMembers) → file_on before no_members ≡ before
file_end before =
    same_file (file_on before no_members) before
    (find_end before.name (codes "name"))
    (find_end before.rules (codes "rules"))
    (find_end before.word (codes "word"))
    (find_end before.extras (codes "extras"))
    (find_end before.conflicts (codes "conflicts"))
    (find_end before.precedences (codes "precedences"))
    (find_end before.externals (codes "externals"))
    (find_end before.reserved (codes "reserved"))
    (find_end before.inline (codes "inline"))
    (find_end before.supertypes (codes "supertypes"))

pub file_step : (all : List (Bytes × OJson)) (i : ℕ) (m : Bytes × OJson) (before after : FileMembers) → i < length all → m ≡ get_or all i m
    → after ≡ file_and before m.0 (json_of m.1)
    → file_members (members_json all) ≡ file_on before (members_json (drop i all)) → file_members (members_json all) ≡ file_on after (members_json (drop (i + 1) all))
file_step all i m before after lt at is so_far =
    so_far
    ∙ ap (file_on before) (members_split all i m lt at)
    ∙ sym (file_more before m.0 (json_of m.1) (members_json (drop (i + 1) all)))
    ∙ ap (λ (x : FileMembers). file_on x (members_json (drop (i + 1) all))) (sym is)

pub file_ends : (all : List (Bytes × OJson)) (i : ℕ) (before : FileMembers) → drop i all ≡ []
    → file_members (members_json all) ≡ file_on before (members_json (drop i all)) → before ≡ file_members (members_json all)
file_ends all i before over so_far = sym (so_far ∙ ap (λ (ms : List (Bytes × OJson)). file_on before (members_json ms)) over ∙ file_end before)
