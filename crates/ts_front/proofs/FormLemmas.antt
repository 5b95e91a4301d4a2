-- The normal form of a grammar whose texts and numbers are typed is typed.
use Rattle.std.proofs.Common.{sym, subst, ℕ, ⊎_elim, false, List, [], ◌∷◌, Option, Some, None, arith}
use Rattle.std.specs.List.{Contains}
use Rattle.std.specs.Str.{IsUtf8}
use Rattle.std.proofs.lemmas.Str.{IsUtf8-nil}
use Rattle.std.proofs.lemmas.List.Elements.{Contains-append_left, Contains-append_right, Contains-append_cases}
use Rattle.ts_base.specs.Bytes.{Bytes}
use Rattle.ts_core.specs.declared.flat.Alias.{Alias}
use Rattle.ts_core.specs.declared.flat.FlatGrammar.{FlatGrammar}
use Rattle.ts_core.specs.declared.flat.FlatRule.{FlatRule}
use Rattle.ts_core.specs.declared.flat.Production.{Production}
use Rattle.ts_core.specs.declared.flat.TokenDef.{TokenDef}
use Rattle.ts_core.specs.declared.re.Re.{Re}
use Rattle.ts_core.specs.declared.rule.Grammar.{Grammar}
use Rattle.ts_core.specs.declared.rule.PrecValue.{PrecValue}
use Rattle.ts_core.specs.declared.rule.Rule.{Rule}
use Rattle.ts_core.specs.declared.rule.Rule.TheOpen.{Rule-F}
use Rattle.ts_core.specs.declared.rule.Rule.TheViews.{out-Rule}
use Rattle.spec_tables.specs.Fit.{IfThere}
use Rattle.ts_pattern.specs.Reads.{Reads}
use Rattle.ts_rules.specs.declared.tree.Alternative.{Alternative}
use Rattle.ts_rules.specs.declared.tree.NumberedStep.{NumberedStep}
use Rattle.ts_rules.specs.Alternatives.{Alternatives}
use Rattle.ts_rules.specs.FirstSights.{Each, end, both}
use Rattle.ts_rules.specs.Normal.{IsNormal, IsOwnRule, IsRepetition, IsTokenExtra}
use Rattle.ts_rules.specs.FirstSights.{Not}
use Rattle.ts_rules.specs.Numbers.{Numbers, Lists, IsInlined, HasSymbol, IsRepeated, alts, outermost}
use Rattle.ts_rules.specs.Productions.{IsInner, AreProductions, alias_of, flat_step, production, filled, again}
use Rattle.ts_rules.specs.Sights.{NamedRule, Sight, sights, rule_sights, extra_sights, walk, contents_in, alias_layer, pattern_layer, field_layer, prec_layer, precs_in, name_in, ranked_names}
use Rattle.ts_rules.specs.Tokens.{IsTokenDef, tree_re}
use Rattle.ts_front.specs.Typed.{IsNumber, IsTypedValue, IsTypedLayer, HasShortCounts, IsTypedStep, IsTypedProduction, IsTypedRule, IsTypedToken, IsTyped, IsTypedGrammar}
use Rattle.ts_front.proofs.CountLemmas.{reads_counts}
use Rattle.ts_front.proofs.InsideLemmas.{token_seen, content_seen, rule_seen}
use Rattle.ts_front.proofs.MemberLemmas.{there, none_in, head_in, tail_in, member_cases, flat_in, in_flat, mapped_in, picked, so_each}
use Rattle.ts_front.proofs.RuleTreeLemmas.{Comes, IsReady, tree_comes}
use Rattle.ts_front.proofs.StepLemmas.{HasText, IsTypedMark, IsTypedAlternative, AreTypedAll, outermost_typed, all_typed, filled_typed, again_typed}

-- each of the second list comes of one of the first
each_in : {X Y : Type 0} (R : X → Y → Type 0) (xs : List X) (ys : List Y) → Each R xs ys → (y : Y) → Contains ys y → (x : X) × Contains xs x × R x y
each_in R _ _ end y w = absurd (none_in y w)
each_in R _ _ (both x z xs ys r rest) y w = ⊎_elim
    (λ e. (x, head_in x xs, subst (R x) (sym e) r))
    (λ u. let p = each_in R xs ys rest y u in (p.0, tail_in x p.0 xs p.1, p.2))
    (member_cases z y ys w)

-- ---- names

only_text : (name other : Bytes) → IsUtf8 name → Contains (name ∷ []) other → IsUtf8 other
only_text name other h w = ⊎_elim (λ e. subst IsUtf8 (sym e) h) (λ none. absurd (none_in other none)) (member_cases name other [] w)

value_text : (value : PrecValue) (name : Bytes) → IsTypedValue value → Contains (name_in value) name → IsUtf8 name
value_text (PrecValue.Number value) name h w = absurd (none_in name w)
value_text (PrecValue.Name text) name h w = only_text text name h w

field_text : (layer : Rule-F Rule) (name : Bytes) → IsTypedLayer layer → Contains (field_layer layer) name → IsUtf8 name
field_text (Rule-F.Field text content) name h w = only_text text name h w
field_text Rule-F.Blank name h w = absurd (none_in name w)
field_text (Rule-F.Literal a) name h w = absurd (none_in name w)
field_text (Rule-F.Pattern a b) name h w = absurd (none_in name w)
field_text (Rule-F.Symbol a) name h w = absurd (none_in name w)
field_text (Rule-F.Seq a) name h w = absurd (none_in name w)
field_text (Rule-F.Choice a) name h w = absurd (none_in name w)
field_text (Rule-F.Repeat a) name h w = absurd (none_in name w)
field_text (Rule-F.Repeat1 a) name h w = absurd (none_in name w)
field_text (Rule-F.Token a) name h w = absurd (none_in name w)
field_text (Rule-F.ImmediateToken a) name h w = absurd (none_in name w)
field_text (Rule-F.Alias a b c) name h w = absurd (none_in name w)
field_text (Rule-F.Prec a b) name h w = absurd (none_in name w)
field_text (Rule-F.PrecLeft a b) name h w = absurd (none_in name w)
field_text (Rule-F.PrecRight a b) name h w = absurd (none_in name w)
field_text (Rule-F.PrecDynamic a b) name h w = absurd (none_in name w)

prec_text : (layer : Rule-F Rule) (name : Bytes) → IsTypedLayer layer → Contains (prec_layer layer) name → IsUtf8 name
prec_text (Rule-F.Prec value content) name h w = value_text value name h w
prec_text (Rule-F.PrecLeft value content) name h w = value_text value name h w
prec_text (Rule-F.PrecRight value content) name h w = value_text value name h w
prec_text Rule-F.Blank name h w = absurd (none_in name w)
prec_text (Rule-F.Literal a) name h w = absurd (none_in name w)
prec_text (Rule-F.Pattern a b) name h w = absurd (none_in name w)
prec_text (Rule-F.Symbol a) name h w = absurd (none_in name w)
prec_text (Rule-F.Seq a) name h w = absurd (none_in name w)
prec_text (Rule-F.Choice a) name h w = absurd (none_in name w)
prec_text (Rule-F.Repeat a) name h w = absurd (none_in name w)
prec_text (Rule-F.Repeat1 a) name h w = absurd (none_in name w)
prec_text (Rule-F.Token a) name h w = absurd (none_in name w)
prec_text (Rule-F.ImmediateToken a) name h w = absurd (none_in name w)
prec_text (Rule-F.Field a b) name h w = absurd (none_in name w)
prec_text (Rule-F.Alias a b c) name h w = absurd (none_in name w)
prec_text (Rule-F.PrecDynamic a b) name h w = absurd (none_in name w)

-- ---- steps

module _ (n : Numbers) where
  alias_is : (a : Option ℕ) → HasText n a → IfThere (λ (x : Alias). IsUtf8 x.name) (alias_of n a)
  alias_is None h = tt
  alias_is (Some k) h = h

  step_is : (s : NumberedStep) → IsTypedMark n s → IsTypedStep (flat_step n s)
  step_is s h = record { prec = h.prec; alias = alias_is s.alias h.alias }

  production_is : (p : Alternative) → IsTypedAlternative n p → IsTypedProduction (production n p)
  production_is p h = record {
    dynamic = h.dynamic;
    steps = λ s w.
        let m = mapped_in (flat_step n) p.steps s w in
        subst IsTypedStep m.2 (step_is m.0 (so_each (IsTypedMark n) p.steps h.steps m.0 m.1));
  }

module _ (g : Grammar) (f : FlatGrammar) (normal : IsNormal Reads g f) (typed : IsTypedGrammar g) where
  abbrev n : Numbers
  n = normal.numbers

  abbrev x : Lists
  x = normal.lists

  ready : (s : Sight) → Contains (walk g) s → IsReady n normal.pattern (out-Rule s.tree)
  ready s w = record {
    typed = typed.walked s w;
    patterns = λ source v.
        let seen = flat_in (λ (u : Sight). pattern_layer (out-Rule u.tree)) (walk g) s source w v in
        let few : HasShortCounts (normal.pattern source.0 source.1) = reads_counts source.0 source.1 (normal.pattern source.0 source.1) (normal.are_patterns source seen) in
        omega (arith, few);
    aliases = λ a v. normal.are_numbers.aliases a (flat_in (λ (u : Sight). alias_layer (out-Rule u.tree)) (walk g) s a w v);
  }

  comes : (t : Rule) → ((s : Sight) → Contains (sights t) s → Contains (walk g) s) → Comes n normal.pattern t
  comes t seen = tree_comes n normal.pattern t false (λ s w. ready s (seen s w))

  in_walk : (s : Sight) → Contains (rule_sights g) s → Contains (walk g) s
  in_walk s w = Contains-append_left (rule_sights g) (extra_sights g) s w

  rule_comes : (rule : NamedRule) → Contains g.rules rule → Comes n normal.pattern rule.1
  rule_comes rule w = comes rule.1 (λ s v. in_walk s (rule_seen g rule w s v))

  token_comes : (t : Rule) → Contains x.tokens t → Comes n normal.pattern t
  token_comes t w = let seen = normal.are_lists.tokens.only t w in comes t (λ s v. in_walk s (token_seen g t seen s v))

  content_comes : (t : Rule) → Contains x.contents t → Comes n normal.pattern t
  content_comes t w =
      let seen = normal.are_lists.contents in
      let p = picked IsRepeated (contents_in (rule_sights g)) seen.0 t seen.1 (seen.2.only t w) in
      comes t (λ s v. in_walk s (content_seen g t p.0 s v))

  extra_comes : (t : Rule) → Contains g.extras t → Comes n normal.pattern t
  extra_comes t w = comes t (λ s v. Contains-append_right (rule_sights g) (extra_sights g) s (flat_in sights g.extras t s w v))

  -- ---- productions

  alts_typed : (t : Rule) → Comes n normal.pattern t → AreTypedAll n (alts n t)
  alts_typed t h = h.tree outermost (outermost_typed n)

  inner_typed : (k : ℕ) (xs : Alternatives) → IsInner n x k xs → AreTypedAll n xs
  inner_typed k xs is =
      let p = picked (λ (r : NamedRule). IsInlined g r.0) g.rules x.inlined is.1 normal.are_lists.inlined (there x.inlined is.0 is.1 is.2) in
      subst (AreTypedAll n) (sym is.4) (alts_typed is.1.1 (rule_comes is.1 p.0))

  found_typed : (from : Alternatives) (found : List Production) → AreTypedAll n from → AreProductions n x from found → (p : Production) → Contains found p → IsTypedProduction p
  found_typed from found h have p w =
      let m = mapped_in (production n) have.all p (have.firsts.only p w) in
      subst IsTypedProduction m.2 (production_is n m.0 (so_each (IsTypedAlternative n) have.all (all_typed n (IsInner n x) inner_typed from have.all h have.become) m.0 m.1))

  own_typed : (rule : NamedRule) (r : FlatRule) → Contains x.rules rule → IsOwnRule g n x rule r → IsTypedRule r
  own_typed rule r w h =
      let p = picked (HasSymbol g) g.rules x.rules rule normal.are_lists.rules w in
      record {
        name = subst IsUtf8 (sym h.name) (typed.names rule p.0);
        productions = found_typed (alts n rule.1) r.productions (alts_typed rule.1 (rule_comes rule p.0)) h.productions;
      }

  repetition_typed : (content : Rule) (r : FlatRule) → Contains x.contents content → IsRepetition g n x content r → IsTypedRule r
  repetition_typed content r w h =
      let once : Alternatives = filled (alts n content) in
      let once_typed : AreTypedAll n once = filled_typed n (alts n content) (alts_typed content (content_comes content w)) in
      let have = h.productions in
      record {
        name = subst IsUtf8 (sym h.name) IsUtf8-nil;
        productions = λ p v. ⊎_elim
            (λ u. found_typed once have.once once_typed have.are_once p u)
            (λ u. found_typed (again (n.repetition content) once) have.more (again_typed n (n.repetition content) once once_typed) have.are_more p u)
            (Contains-append_cases have.once have.more p (subst (λ (ps : List Production). Contains ps p) have.is v));
      }

  rule_typed : (r : FlatRule) → Contains f.rules r → IsTypedRule r
  rule_typed r w = ⊎_elim
      (λ u. let e = each_in (IsOwnRule g n x) x.rules normal.own normal.are_own r u in own_typed e.0 r e.1 e.2)
      (λ u. let e = each_in (IsRepetition g n x) x.contents normal.repetitions normal.are_repetitions r u in repetition_typed e.0 r e.1 e.2)
      (Contains-append_cases normal.own normal.repetitions r (subst (λ (rs : List FlatRule). Contains rs r) normal.rules w))

  -- ---- tokens

  token_typed : (d : TokenDef) → Contains f.tokens d → IsTypedToken d
  token_typed d w =
      let e = each_in (IsTokenDef normal.pattern g) x.tokens f.tokens normal.tokens d w in
      let h = e.2 in
      let c = token_comes e.0 e.1 in
      let few = c.counts in
      record {
        name = ⊎_elim (λ named. typed.names (d.name, e.0) named.rule.is) (λ unnamed. subst IsUtf8 (sym unnamed.name) c.name) h.named;
        prec = subst IsNumber (sym h.prec) c.lexical;
        counts = subst HasShortCounts (sym h.re) (omega (arith, few));
      }

  separator_typed : (re : Re) → Contains f.separators re → HasShortCounts re
  separator_typed re w =
      let all = normal.separators in
      let m = mapped_in (tree_re normal.pattern) all.0 re (subst (λ (rs : List Re). Contains rs re) all.2 w) in
      let p = picked (λ (tree : Rule). Not (IsTokenExtra g tree)) g.extras all.0 m.0 all.1 m.1 in
      let few = (extra_comes m.0 p.0).counts in
      subst HasShortCounts m.2 (omega (arith, few))

  -- ---- names

  field_typed : (name : Bytes) → Contains f.fields name → IsUtf8 name
  field_typed name w =
      let seen = normal.are_lists.fields.only name (subst (λ (ns : List Bytes). Contains ns name) normal.fields w) in
      let r = in_flat (λ (s : Sight). field_layer (out-Rule s.tree)) (walk g) name seen in
      field_text (out-Rule r.0.tree) name (typed.walked r.0 r.1) r.2

  prec_typed : (name : Bytes) → Contains f.precs name → IsUtf8 name
  prec_typed name w =
      let seen = normal.are_lists.precs.only name (subst (λ (ns : List Bytes). Contains ns name) normal.precs w) in
      ⊎_elim
      (λ u. let r = in_flat (λ (s : Sight). prec_layer (out-Rule s.tree)) (walk g) name u in prec_text (out-Rule r.0.tree) name (typed.walked r.0 r.1) r.2)
      (λ u. typed.ranked name u)
      (Contains-append_cases (precs_in (walk g)) (ranked_names g) name seen)

  pub form_typed : IsTyped f
  form_typed = record {
    name = subst IsUtf8 (sym normal.name) typed.name;
    tokens = token_typed;
    rules = rule_typed;
    separators = separator_typed;
    fields = field_typed;
    precs = prec_typed;
  }
