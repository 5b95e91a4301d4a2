-- A grammar whose names are all defined has one normal form.
use Rattle.std.proofs.Common.{◌≡◌, ◌∙◌, sym, ap, subst, refl, ◌<◌, Bool, false, ◌⊎◌, inl, inr, List, [], ◌∷◌, ◌++◌, map, Option, Some, None, option_map, ◌↔◌, arith}
use Rattle.std.specs.List.{Contains, flat_map}
use Rattle.std.proofs.lemmas.List.Elements.{Contains-append_right}
use Rattle.ts_base.specs.Bytes.{Bytes}
use Rattle.ts_core.specs.declared.flat.Entry.{Entry}
use Rattle.ts_core.specs.declared.flat.FlatGrammar.{FlatGrammar}
use Rattle.ts_core.specs.declared.flat.FlatRule.{FlatRule}
use Rattle.ts_core.specs.declared.flat.TokenDef.{TokenDef}
use Rattle.ts_core.specs.declared.re.Re.{Re}
use Rattle.ts_core.specs.declared.rule.Grammar.{Grammar}
use Rattle.ts_core.specs.declared.rule.Ranked.{Ranked}
use Rattle.ts_core.specs.declared.rule.Rule.{Rule}
use Rattle.ts_core.specs.declared.rule.Rule.TheOpen.{Rule-F}
use Rattle.ts_core.specs.declared.rule.Rule.TheVariants as rule
use Rattle.ts_core.specs.declared.rule.Rule.TheVariants.{rolls-Symbol}
use Rattle.ts_core.specs.declared.rule.Rule.TheViews.{out-Rule, out-roll-Rule}
use Rattle.ts_core.specs.declared.symbol.Symbol.{Symbol}
use Rattle.ts_rules.specs.Causes.{IsUndefined, names_used, listed}
use Rattle.ts_rules.specs.FirstSights.{Not, Picks, Each, end, both, First, Clear, AreFirstSights}
use Rattle.ts_rules.specs.Normal.{IsNormal, ArePatterns, IsOwnRule, IsOwner, IsRepetition, IsTokenExtra, IsExtra, AreSeparators, AreSymbols, entry, IsKeptEntry, AreEntries, IsSupertype, Rising}
use Rattle.ts_rules.specs.Numbers.{Numbers, Lists, AreLists, AreNumbers, IsRule, IsInlined, HasSymbol, IsRepeated, alts, start_of}
use Rattle.ts_rules.specs.Productions.{symbol}
use Rattle.ts_rules.specs.Sights.{NamedRule, Sight, sights, below, rule_sights, extra_sights, walk, tokens_in, contents_in, symbol_layer, fields_in, patterns_in, pattern_layer, ranked_name, ranked_rule, ranked_names, precs_in}
use Rattle.ts_rules.specs.Tokens.{Patterns, IsTokenDef, tree_re}
use Rattle.ts_form.proofs.ListLemmas.{head_in, flat_in, one_pick, picked, one_first, one_order, one_sights}
use Rattle.ts_form.proofs.PatternLemmas.{ReadAlike, same_re}
use Rattle.ts_form.proofs.RecordLemmas.{same_rule, same_lists, same_flat}
use Rattle.ts_form.proofs.TokenLemmas.{one_kind, one_definition}
use Rattle.ts_form.proofs.BecomeLemmas.{same_productions, same_repeated}
use Rattle.ts_form.proofs.AgreeLemmas.{walk_has, symbol_used, word_used, conflict_used, ranked_used, supertype_used, token_same, repetition_same, prec_same, used_same, of_rule_same, rule_alike, inlined_alike, content_alike}

-- ---- lists that are made place by place

module _ {X Y : Type 0} (R S : X → Y → Type 0) where
  each_same : (xs : List X) (ys zs : List Y) → Each R xs ys → Each S xs zs → ((x : X) (y z : Y) → Contains xs x → R x y → S x z → y ≡ z) → ys ≡ zs
  each_same _ _ _ end end h = refl
  each_same _ _ _ (both x y xs ys r rest) (both a z as_left zs s more) h =
      ap (λ (v : Y). v ∷ ys) (h x y z (head_in x xs) r s)
      ∙ ap (λ (vs : List Y). z ∷ vs) (each_same xs ys zs rest more (λ u v w c. h u v w (Contains-append_right (x ∷ []) xs u c)))

map_same : {X Y : Type 0} (f k : X → Y) (xs : List X) → ((x : X) → Contains xs x → f x ≡ k x) → map f xs ≡ map k xs
map_same f k [] h = refl
map_same {Y = Y} f k (x ∷ xs) h =
    ap (λ (y : Y). y ∷ map f xs) (h x (head_in x xs)) ∙ ap (λ (ys : List Y). k x ∷ ys) (map_same f k xs (λ y w. h y (Contains-append_right (x ∷ []) xs y w)))

pub first_in : {X : Type 0} (P : X → Type 0) (all : List X) (x : X) → First P all x → Contains all x
first_in {X = X} P all x f = subst (λ (xs : List X). Contains xs x) (sym f.is) (Contains-append_right f.before (x ∷ f.after) x (head_in x f.after))

-- ---- the lists behind the numbers

pub one_lists : (g : Grammar) (x y : Lists) → AreLists g x → AreLists g y → x ≡ y
one_lists g x y a b =
    let s = a.contents in
    let t = b.contents in
    let seen : t.0 ≡ s.0 = one_pick IsRepeated (contents_in (rule_sights g)) t.0 s.0 t.1 s.1 in
    let contents : x.contents ≡ y.contents = one_sights s.0 x.contents y.contents s.2 (subst (λ (trees : List Rule). AreFirstSights trees y.contents) seen t.2) in
    same_lists x y
    (one_sights (tokens_in (rule_sights g)) x.tokens y.tokens a.tokens b.tokens)
    (one_pick (HasSymbol g) g.rules x.rules y.rules a.rules b.rules)
    contents
    (one_pick (λ (r : NamedRule). IsInlined g r.0) g.rules x.inlined y.inlined a.inlined b.inlined)
    (one_sights (fields_in (walk g)) x.fields y.fields a.fields b.fields)
    (one_sights (precs_in (walk g) ++ ranked_names g) x.precs y.precs a.precs b.precs)

-- ---- symbols

out_symbol : (name : Bytes) → out-Rule (rule.Symbol name) ≡ Rule-F.Symbol name
out_symbol name = ap out-Rule (sym (rolls-Symbol name)) ∙ out-roll-Rule (Rule-F.Symbol name)

symbol_name : (a b : Bytes) → rule.Symbol a ≡ rule.Symbol b → a ≡ b
symbol_name a b h =
    let e : a ∷ [] ≡ b ∷ [] = ap (λ (z : Rule-F Rule). symbol_layer z) (sym (out_symbol a) ∙ ap out-Rule h ∙ out_symbol b) in
    cc

extra_seen : (g : Grammar) (t : Rule) → Contains g.extras t → (s : Sight) → Contains (sights t) s → Contains (walk g) s
extra_seen g t w s v = Contains-append_right (rule_sights g) (extra_sights g) s (flat_in sights g.extras t s w v)

extra_used : (g : Grammar) (t : Rule) (name : Bytes) → Contains g.extras t → t ≡ rule.Symbol name → Contains (names_used g) name
extra_used g t name w e =
    let top : Sight = record { tree = t; inside = false } in
    symbol_used g name (flat_in (λ (v : Sight). symbol_layer (out-Rule v.tree)) (walk g) top name (extra_seen g t w top (head_in top (below t false)))
    (subst (λ (z : Rule-F Rule). Contains (symbol_layer z) name) (sym (ap out-Rule e ∙ out_symbol name)) (head_in name [])))

-- ---- owners

abbrev pub IsChosen : Grammar → NamedRule → Bytes → Type 0
IsChosen g r name = (Not (IsInlined g r.0) × (name ≡ r.0)) ⊎ (IsInlined g r.0 × (start_of g.rules ≡ Some name))

one_choice : (g : Grammar) (r : NamedRule) (a b : Bytes) → IsChosen g r a → IsChosen g r b → a ≡ b
one_choice g r a b (inl h) (inl k) = h.1 ∙ sym k.1
one_choice g r a b (inl h) (inr k) = absurd (h.0 k.0)
one_choice g r a b (inr h) (inl k) = absurd (k.0 h.0)
one_choice g r a b (inr h) (inr k) = let e : Some a ≡ Some b = sym h.1 ∙ k.1 in cc

pub start_rule : (rules : List NamedRule) (name : Bytes) → start_of rules ≡ Some name → (tree : Rule) × Contains rules (name, tree)
start_rule [] name e = absurd (let f : None ≡ Some name = e in cc)
start_rule (r ∷ rules) name e =
    let f : Some r.0 ≡ Some name = e in
    let is : r.0 ≡ name = cc in
    (r.1, subst (λ (n : Bytes). Contains (r ∷ rules) (n, r.1)) is (head_in r rules))

abbrev pub Holds : Rule → NamedRule → Type 0
Holds content r = Contains (contents_in (sights r.1)) content

one_owner : (g : Grammar) (content : Rule) (a b : Bytes) → IsOwner g content a → IsOwner g content b → a ≡ b
one_owner g content a b h k =
    let same : k.0 ≡ h.0 = one_first (Holds content) g.rules k.0 h.0 k.1 h.1 in
    one_choice g h.0 a b h.2 (subst (λ (r : NamedRule). IsChosen g r b) same k.2)

owner_rule : (g : Grammar) (content : Rule) (name : Bytes) → IsOwner g content name → IsRule g name
owner_rule g content name h = by h.0 (first_in (Holds content) g.rules h.0 h.1) h.2
  where
    by : (r : NamedRule) → Contains g.rules r → IsChosen g r name → IsRule g name
    by r w (inl c) = (r.1, subst (λ (n : Bytes). Contains g.rules (n, r.1)) (sym c.1) w)
    by r w (inr c) = start_rule g.rules name c.1

-- ---- part by part

module _ (g : Grammar) (x : Lists) (n m : Numbers) (lists : AreLists g x) (first : AreNumbers g n x) (second : AreNumbers g m x) (defined : Clear (IsUndefined g) (names_used g))
    (p q : Patterns) (alike : ReadAlike p q (walk g)) (back : ReadAlike q p (walk g)) where
  used : (name : Bytes) → Contains (names_used g) name → symbol (n.rule name) ≡ symbol (m.rule name)
  used name w = ap symbol (used_same g x n m lists first second defined name w)

  tokens_same : (fs hs : List TokenDef) → Each (IsTokenDef p g) x.tokens fs → Each (IsTokenDef q g) x.tokens hs → fs ≡ hs
  tokens_same fs hs a b = each_same (IsTokenDef p g) (IsTokenDef q g) x.tokens fs hs a b
      (λ t d e w. one_definition g p q t d e (λ s v. alike s (walk_has g s v)) (λ s v. back s (walk_has g s v)) (lists.tokens.only t w))

  own_same : (fs hs : List FlatRule) → Each (IsOwnRule g n x) x.rules fs → Each (IsOwnRule g m x) x.rules hs → fs ≡ hs
  own_same fs hs a b = each_same (IsOwnRule g n x) (IsOwnRule g m x) x.rules fs hs a b (λ r s z w h k.
      let p = picked (HasSymbol g) g.rules x.rules r lists.rules w in
      same_rule s z (h.name ∙ sym k.name) (one_kind g r.0 s.kind z.kind h.kind k.kind)
      (h.owner ∙ ap symbol (of_rule_same g x n m lists first second defined r.0 (r.1, p.0)) ∙ sym k.owner)
      (same_productions n m x (inlined_alike g x n m lists first second defined) (alts n r.1) (alts m r.1) s.productions z.productions
      (rule_alike g x n m lists first second defined r p.0) h.productions k.productions))

  repetitions_same : (fs hs : List FlatRule) → Each (IsRepetition g n x) x.contents fs → Each (IsRepetition g m x) x.contents hs → fs ≡ hs
  repetitions_same fs hs a b = each_same (IsRepetition g n x) (IsRepetition g m x) x.contents fs hs a b (λ c s z w h k.
      same_rule s z (h.name ∙ sym k.name) (h.kind ∙ sym k.kind) (owner c s z h k)
      (same_repeated n m x (inlined_alike g x n m lists first second defined) c s.productions z.productions (content_alike g x n m lists first second defined c w)
      (repetition_same g x n m lists first second defined c w) h.productions k.productions))
    where
      owner : (c : Rule) (s z : FlatRule) → IsRepetition g n x c s → IsRepetition g m x c z → s.owner ≡ z.owner
      owner c s z h k =
          let a = h.owner in
          let b = k.owner in
          let same : a.0 ≡ b.0 = one_owner g c a.0 b.0 a.1 b.1 in
          a.2 ∙ ap symbol (of_rule_same g x n m lists first second defined a.0 (owner_rule g c a.0 a.1)) ∙ ap (λ (name : Bytes). symbol (m.rule name)) same ∙ sym b.2

  abbrev IsSeparator : Rule → Type 0
  IsSeparator t = Not (IsTokenExtra g t)

  separators_same : (fs hs : List Re) → ((trees : List Rule) × AreSeparators g trees × (fs ≡ map (tree_re p) trees)) → ((trees : List Rule) × AreSeparators g trees × (hs ≡ map (tree_re q) trees)) → fs ≡ hs
  separators_same fs hs a b =
      a.2
      ∙ map_same (tree_re p) (tree_re q) a.0 (λ t w. same_re p q t (λ s v. alike s (extra_seen g t (picked IsSeparator g.extras a.0 t a.1 w).0 s v)))
      ∙ ap (map (tree_re q)) (one_pick IsSeparator g.extras a.0 b.0 a.1 b.1)
      ∙ sym b.2

  extra_same : (t : Rule) (s z : Symbol) → Contains g.extras t → IsTokenExtra g t → IsExtra n t s → IsExtra m t z → s ≡ z
  extra_same t s z w k (inl a) (inl b) =
      a.2 ∙ used a.0 (extra_used g t a.0 w a.1) ∙ ap (λ (name : Bytes). symbol (m.rule name)) (symbol_name a.0 b.0 (sym a.1 ∙ b.1)) ∙ sym b.2
  extra_same t s z w k (inl a) (inr b) = absurd (b.0 a.0 a.1)
  extra_same t s z w k (inr a) (inl b) = absurd (a.0 b.0 b.1)
  extra_same t s z w (inl k) (inr a) (inr b) = absurd (a.0 k.0 k.1)
  extra_same t s z w (inr k) (inr a) (inr b) = a.1 ∙ ap symbol (token_same g x n m lists first second defined t k) ∙ sym b.1

  extras_same : (fs hs : List Symbol) → ((trees : List Rule) × Picks (IsTokenExtra g) g.extras trees × Each (IsExtra n) trees fs)
      → ((trees : List Rule) × Picks (IsTokenExtra g) g.extras trees × Each (IsExtra m) trees hs) → fs ≡ hs
  extras_same fs hs a b =
      let same : b.0 ≡ a.0 = one_pick (IsTokenExtra g) g.extras b.0 a.0 b.1 a.1 in
      each_same (IsExtra n) (IsExtra m) a.0 fs hs a.2 (subst (λ (trees : List Rule). Each (IsExtra m) trees hs) same b.2)
      (λ t s z w. let p = picked (IsTokenExtra g) g.extras a.0 t a.1 w in extra_same t s z p.0 p.1)

  word_same : option_map (λ (name : Bytes). symbol (n.rule name)) g.word ≡ option_map (λ (name : Bytes). symbol (m.rule name)) g.word
  word_same = by g.word (λ name w. used name (word_used g name w))
    where
      by : (o : Option Bytes) → ((name : Bytes) → Contains (listed o) name → symbol (n.rule name) ≡ symbol (m.rule name))
          → option_map (λ (name : Bytes). symbol (n.rule name)) o ≡ option_map (λ (name : Bytes). symbol (m.rule name)) o
      by None h = refl
      by (Some name) h = ap (λ (s : Symbol). Some s) (h name (head_in name []))

  abbrev IsKeptName : Bytes → Type 0
  IsKeptName name = Not (IsInlined g name)

  conflicts_same : (fs hs : List (List Symbol)) → Each (AreSymbols g n) g.conflicts fs → Each (AreSymbols g m) g.conflicts hs → fs ≡ hs
  conflicts_same fs hs a b = each_same (AreSymbols g n) (AreSymbols g m) g.conflicts fs hs a b (λ names ys zs w c d.
      c.2
      ∙ map_same (λ (name : Bytes). symbol (n.rule name)) (λ (name : Bytes). symbol (m.rule name)) c.0
      (λ name v. used name (conflict_used g name (flat_in (λ (ns : List Bytes). ns) g.conflicts names name w (picked IsKeptName names c.0 name c.1 v).0)))
      ∙ ap (map (λ (name : Bytes). symbol (m.rule name))) (one_pick IsKeptName names c.0 d.0 c.1 d.1)
      ∙ sym d.2)

  entry_same : (entries : List Ranked) (r : Ranked) → Contains g.precedences entries → Contains entries r → entry n r ≡ entry m r
  entry_same entries (Ranked.Name name) w v =
      ap Entry.Name (prec_same g x n m lists first second defined name (Contains-append_right (precs_in (walk g)) (ranked_names g) name
      (flat_in (λ (es : List Ranked). flat_map ranked_name es) g.precedences entries name w (flat_in ranked_name entries (Ranked.Name name) name v (head_in name [])))))
  entry_same entries (Ranked.Rule name) w v =
      ap Entry.Rule (used name (ranked_used g name
      (flat_in (λ (es : List Ranked). flat_map ranked_rule es) g.precedences entries name w (flat_in ranked_rule entries (Ranked.Rule name) name v (head_in name [])))))

  precedences_same : (fs hs : List (List Entry)) → Each (AreEntries g n) g.precedences fs → Each (AreEntries g m) g.precedences hs → fs ≡ hs
  precedences_same fs hs a b = each_same (AreEntries g n) (AreEntries g m) g.precedences fs hs a b (λ entries ys zs w c d.
      c.2
      ∙ map_same (entry n) (entry m) c.0 (λ r v. entry_same entries r w (picked (IsKeptEntry g) entries c.0 r c.1 v).0)
      ∙ ap (map (entry m)) (one_pick (IsKeptEntry g) entries c.0 d.0 c.1 d.1)
      ∙ sym d.2)

  supertype_too : (s : Symbol) → IsSupertype g n s → IsSupertype g m s
  supertype_too s h = (h.0, h.1, h.2, h.3 ∙ used h.0 (supertype_used g h.0 h.1))

  supertype_back : (s : Symbol) → IsSupertype g m s → IsSupertype g n s
  supertype_back s h = (h.0, h.1, h.2, h.3 ∙ sym (used h.0 (supertype_used g h.0 h.1)))

  supertypes_same : (fs hs : List Symbol) → ((s : Symbol) → Contains fs s ↔ IsSupertype g n s) → Rising fs → ((s : Symbol) → Contains hs s ↔ IsSupertype g m s) → Rising hs → fs ≡ hs
  supertypes_same fs hs a rising b rising_too =
      one_order (λ (s z : Symbol). s.0 < z.0) (λ s z lt gt. omega arith) fs hs rising rising_too (λ s w. (b s).1 (supertype_too s ((a s).0 w))) (λ s w. (a s).1 (supertype_back s ((b s).0 w)))

-- ---- the whole

module _ (Reads : Bytes → Bool → Re → Type 0) (one_reading : (r s : Re) (w : Bytes) (ignore_case : Bool) → Reads w ignore_case r → Reads w ignore_case s → r ≡ s) where
  reads_alike : (g : Grammar) (p q : Patterns) → ArePatterns Reads g p → ArePatterns Reads g q → ReadAlike p q (walk g)
  reads_alike g p q a b s w source v =
      let u : Contains (patterns_in (walk g)) source = flat_in (λ (z : Sight). pattern_layer (out-Rule z.tree)) (walk g) s source w v in
      one_reading (p source.0 source.1) (q source.0 source.1) source.0 source.1 (a source u) (b source u)

  pub one_form : (g : Grammar) (f h : FlatGrammar) → Clear (IsUndefined g) (names_used g) → IsNormal Reads g f → IsNormal Reads g h → f ≡ h
  one_form g f h defined a b =
      let x : Lists = a.lists in
      let is : b.lists ≡ x = one_lists g b.lists x b.are_lists a.are_lists in
      let second : AreNumbers g b.numbers x = subst (λ (z : Lists). AreNumbers g b.numbers z) is b.are_numbers in
      let alike : ReadAlike a.pattern b.pattern (walk g) = reads_alike g a.pattern b.pattern a.are_patterns b.are_patterns in
      let back : ReadAlike b.pattern a.pattern (walk g) = reads_alike g b.pattern a.pattern b.are_patterns a.are_patterns in
      let tokens : Each (IsTokenDef b.pattern g) x.tokens h.tokens = subst (λ (z : Lists). Each (IsTokenDef b.pattern g) z.tokens h.tokens) is b.tokens in
      let own : Each (IsOwnRule g b.numbers x) x.rules b.own = subst (λ (z : Lists). Each (IsOwnRule g b.numbers z) z.rules b.own) is b.are_own in
      let repetitions : Each (IsRepetition g b.numbers x) x.contents b.repetitions
      = subst (λ (z : Lists). Each (IsRepetition g b.numbers z) z.contents b.repetitions) is b.are_repetitions in
      let same_own : a.own ≡ b.own = own_same g x a.numbers b.numbers a.are_lists a.are_numbers second defined a.pattern b.pattern alike back a.own b.own a.are_own own in
      let same_repetitions : a.repetitions ≡ b.repetitions
      = repetitions_same g x a.numbers b.numbers a.are_lists a.are_numbers second defined a.pattern b.pattern alike back a.repetitions b.repetitions a.are_repetitions repetitions in
      same_flat f h
      (a.name ∙ sym b.name)
      (tokens_same g x a.numbers b.numbers a.are_lists a.are_numbers second defined a.pattern b.pattern alike back f.tokens h.tokens a.tokens tokens)
      (a.rules ∙ ap (λ (rs : List FlatRule). rs ++ a.repetitions) same_own ∙ ap (λ (rs : List FlatRule). b.own ++ rs) same_repetitions ∙ sym b.rules)
      (separators_same g x a.numbers b.numbers a.are_lists a.are_numbers second defined a.pattern b.pattern alike back f.separators h.separators a.separators b.separators)
      (extras_same g x a.numbers b.numbers a.are_lists a.are_numbers second defined a.pattern b.pattern alike back f.extras h.extras a.extras b.extras)
      (a.word ∙ word_same g x a.numbers b.numbers a.are_lists a.are_numbers second defined a.pattern b.pattern alike back ∙ sym b.word)
      (a.fields ∙ ap (λ (z : Lists). z.fields) (sym is) ∙ sym b.fields)
      (a.precs ∙ ap (λ (z : Lists). z.precs) (sym is) ∙ sym b.precs)
      (conflicts_same g x a.numbers b.numbers a.are_lists a.are_numbers second defined a.pattern b.pattern alike back f.conflicts h.conflicts a.conflicts b.conflicts)
      (precedences_same g x a.numbers b.numbers a.are_lists a.are_numbers second defined a.pattern b.pattern alike back f.precedences h.precedences a.precedences b.precedences)
      (supertypes_same g x a.numbers b.numbers a.are_lists a.are_numbers second defined a.pattern b.pattern alike back f.supertypes h.supertypes a.supertypes a.supertypes_rise b.supertypes b.supertypes_rise)
