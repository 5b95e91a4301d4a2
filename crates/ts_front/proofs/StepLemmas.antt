-- The steps in the alternatives of a rule tree by numbers: their precedences and dynamic values are
-- numbers of 32 bits, and their aliases are texts.
use Rattle.std.proofs.Common.{sym, subst, ℕ, ℤ, pos, Bool, true, false, if◌then◌else◌, nat_lt, unsigned_abs, List, [], ◌∷◌, ◌++◌, map, Option, Some, None, arith}
use Rattle.std.specs.List.{AllByRecursion}
use Rattle.std.specs.Str.{IsUtf8}
use Rattle.ts_core.specs.declared.flat.Assoc.{Assoc}
use Rattle.ts_core.specs.declared.flat.Prec.{Prec}
use Rattle.spec_tables.specs.Fit.{IfThere}
use Rattle.ts_rules.specs.declared.tree.Alternative.{Alternative}
use Rattle.ts_rules.specs.declared.tree.Around.{Around}
use Rattle.ts_rules.specs.declared.tree.NumberedStep.{NumberedStep}
use Rattle.ts_rules.specs.declared.tree.Tree.{Tree}
use Rattle.ts_rules.specs.declared.tree.Tree.TheVariants as tree
use Rattle.ts_rules.specs.Alternatives.{Alternatives, alternatives_of, alternative, blank, single, step_at, followed, joins, stronger, sequence, choice_of, alternatives_each, in_field, in_alias, in_dynamic, in_group, in_sequence, is_last, left, left_by, last_left, group}
use Rattle.ts_rules.specs.Numbers.{Numbers, outermost}
use Rattle.ts_rules.specs.Productions.{or_else, prec_or, marked_by, ended_by, inserted, replaced_by, Becomes, stays, replaced, AllBecome, none_left, one_more, unless_blank, filled, again}
use Rattle.ts_front.specs.Typed.{IsNumber, IsTypedPrec}
use Rattle.ts_front.proofs.MemberLemmas.{all_append, all_mapped}
use Rattle.ts_front.proofs.AlternativeLemmas.{at_blank, at_step, at_field, at_alias, at_group, at_dynamic, at_seq, at_choice}

pub zero_number : IsNumber (pos 0)
zero_number = omega arith

stronger_number : (a b : ℤ) → IsNumber a → IsNumber b → IsNumber (stronger a b)
stronger_number a b h k = by (nat_lt (unsigned_abs a) (unsigned_abs b))
  where
    by : (c : Bool) → IsNumber (if c then b else a)
    by true = k
    by false = h

module _ (n : Numbers) where
  abbrev pub HasText : Option ℕ → Type 0
  HasText a = IfThere (λ (k : ℕ). IsUtf8 (n.alias_at k).name) a

  pub record IsTypedMark (s : NumberedStep) : Type 0 where
    pub prec : IsTypedPrec s.prec
    pub alias : HasText s.alias

  pub record IsTypedAround (a : Around) : Type 0 where
    pub prec : IsTypedPrec a.prec
    pub alias : HasText a.alias
    pub dynamic : IsNumber a.dynamic

  pub record IsTypedAlternative (p : Alternative) : Type 0 where
    pub dynamic : IsNumber p.dynamic
    pub steps : AllByRecursion IsTypedMark p.steps

  abbrev pub AreTypedAll : Alternatives → Type 0
  AreTypedAll = AllByRecursion IsTypedAlternative

  abbrev pub IsTypedTree : Tree → Type 0
  IsTypedTree t = (a : Around) → IsTypedAround a → AreTypedAll (alternatives_of t a)

  -- ---- lists of alternatives

  typed_blank : IsTypedAlternative blank
  typed_blank = record { dynamic = zero_number; steps = tt }

  typed_step : (k : ℕ) (a : Around) → IsTypedAround a → IsTypedMark (step_at k a)
  typed_step k a r = record { prec = r.prec; alias = r.alias }

  typed_single : (k : ℕ) (a : Around) → IsTypedAround a → IsTypedAlternative (single k a)
  typed_single k a r = record { dynamic = r.dynamic; steps = (typed_step k a r, tt) }

  typed_followed : (x y : Alternative) → IsTypedAlternative x → IsTypedAlternative y → IsTypedAlternative (followed x y)
  typed_followed x y h k = record {
    dynamic = stronger_number x.dynamic y.dynamic h.dynamic k.dynamic;
    steps = all_append IsTypedMark x.steps y.steps h.steps k.steps;
  }

  typed_joins : (xs ys : Alternatives) → AreTypedAll xs → AreTypedAll ys → AreTypedAll (joins xs ys)
  typed_joins [] ys h k = tt
  typed_joins (x ∷ xs) ys h k = all_append IsTypedAlternative (map (λ y. followed x y) ys) (joins xs ys)
      (all_mapped IsTypedAlternative IsTypedAlternative (λ (y : Alternative). followed x y) (λ y t. typed_followed x y h.0 t) ys k)
      (typed_joins xs ys h.1 k)

  typed_left_by : (a : Around) (s : NumberedStep) → IsTypedAround a → IsTypedMark s → IsTypedMark (left_by a s)
  typed_left_by a s r h = record { prec = r.prec; alias = h.alias }

  typed_last : (a : Around) (steps : List NumberedStep) → IsTypedAround a → AllByRecursion IsTypedMark steps → AllByRecursion IsTypedMark (last_left a steps)
  typed_last a [] r h = tt
  typed_last a (x ∷ []) r h = (typed_left_by a x r h.0, tt)
  typed_last a (x ∷ y ∷ ys) r h = (h.0, typed_last a (y ∷ ys) r h.1)

  typed_left : (a : Around) (x : Alternative) → IsTypedAround a → IsTypedAlternative x → IsTypedAlternative (left a x)
  typed_left a x r h = record { dynamic = h.dynamic; steps = typed_last a x.steps r h.steps }

  typed_group : (a : Around) (xs : Alternatives) → IsTypedAround a → AreTypedAll xs → AreTypedAll (group a xs)
  typed_group a xs r h = by a.at_end
    where
      by : (b : Bool) → AreTypedAll (if b then xs else map (left a) xs)
      by true = h
      by false = all_mapped IsTypedAlternative IsTypedAlternative (left a) (λ x k. typed_left a x r k) xs h

  -- ---- trees

  pub blank_typed : IsTypedTree tree.Blank
  blank_typed a r = subst AreTypedAll (sym (at_blank a)) (typed_blank, tt)

  pub step_typed : (k : ℕ) → IsTypedTree (tree.Step k)
  step_typed k a r = subst AreTypedAll (sym (at_step k a)) (typed_single k a r, tt)

  pub field_typed : (k : ℕ) (t : Tree) → IsTypedTree t → IsTypedTree (tree.Field k t)
  field_typed k t h a r = subst AreTypedAll (sym (at_field k t a)) (h (in_field k a) (record { prec = r.prec; alias = r.alias; dynamic = r.dynamic }))

  pub alias_typed : (k : ℕ) (t : Tree) → IsUtf8 (n.alias_at k).name → IsTypedTree t → IsTypedTree (tree.Alias k t)
  alias_typed k t text h a r = subst AreTypedAll (sym (at_alias k t a)) (h (in_alias k a) (record { prec = r.prec; alias = text; dynamic = r.dynamic }))

  pub dynamic_typed : (value : ℤ) (t : Tree) → IsNumber value → IsTypedTree t → IsTypedTree (tree.Dynamic value t)
  dynamic_typed value t k h a r = subst AreTypedAll (sym (at_dynamic value t a))
      (h (in_dynamic value a) (record { prec = r.prec; alias = r.alias; dynamic = stronger_number a.dynamic value r.dynamic k }))

  pub group_typed : (q : Prec) (assoc : Assoc) (t : Tree) → IsTypedPrec q → IsTypedTree t → IsTypedTree (tree.Group q assoc t)
  group_typed q assoc t k h a r = subst AreTypedAll (sym (at_group q assoc t a))
      (typed_group a (alternatives_of t (in_group q assoc a)) r (h (in_group q assoc a) (record { prec = k; alias = r.alias; dynamic = r.dynamic })))

  members_typed : (ts : List Tree) → AllByRecursion IsTypedTree ts → (a : Around) → IsTypedAround a → AreTypedAll (sequence (alternatives_each ts a))
  members_typed [] h a r = (typed_blank, tt)
  members_typed (t ∷ ts) h a r = typed_joins (alternatives_of t (in_sequence (is_last ts) a)) (sequence (alternatives_each ts a))
      (h.0 (in_sequence (is_last ts) a) (record { prec = r.prec; alias = r.alias; dynamic = r.dynamic })) (members_typed ts h.1 a r)

  pub seq_typed : (ts : List Tree) → AllByRecursion IsTypedTree ts → IsTypedTree (tree.Seq ts)
  seq_typed ts h a r = subst AreTypedAll (sym (at_seq ts a)) (members_typed ts h a r)

  branches_typed : (ts : List Tree) → AllByRecursion IsTypedTree ts → (a : Around) → IsTypedAround a → AreTypedAll (choice_of ts a)
  branches_typed [] h a r = tt
  branches_typed (t ∷ ts) h a r = all_append IsTypedAlternative (alternatives_of t a) (choice_of ts a) (h.0 a r) (branches_typed ts h.1 a r)

  pub choice_typed : (ts : List Tree) → AllByRecursion IsTypedTree ts → IsTypedTree (tree.Choice ts)
  choice_typed ts h a r = subst AreTypedAll (sym (at_choice ts a)) (branches_typed ts h a r)

  -- nothing stands round a whole rule
  pub outermost_typed : IsTypedAround outermost
  outermost_typed = record { prec = tt; alias = tt; dynamic = zero_number }

  -- ---- inlining

  or_text : (a b : Option ℕ) → HasText a → HasText b → HasText (or_else a b)
  or_text None b h k = k
  or_text (Some x) b h k = h

  or_prec : (p q : Prec) → IsTypedPrec p → IsTypedPrec q → IsTypedPrec (prec_or p q)
  or_prec Prec.Absent q h k = k
  or_prec (Prec.Number value) q h k = h
  or_prec (Prec.Name name) q h k = h

  typed_marked : (s t : NumberedStep) → IsTypedMark s → IsTypedMark t → IsTypedMark (marked_by s t)
  typed_marked s t h k = record { prec = k.prec; alias = or_text s.alias t.alias h.alias k.alias }

  typed_ended : (s t : NumberedStep) → IsTypedMark s → IsTypedMark t → IsTypedMark (ended_by s t)
  typed_ended s t h k = record { prec = or_prec t.prec s.prec k.prec h.prec; alias = k.alias }

  typed_inserted : (step : NumberedStep) (ss : List NumberedStep) → IsTypedMark step → AllByRecursion IsTypedMark ss → AllByRecursion IsTypedMark (inserted step ss)
  typed_inserted step [] h k = tt
  typed_inserted step (t ∷ []) h k = (typed_ended step (marked_by step t) h (typed_marked step t h k.0), tt)
  typed_inserted step (t ∷ r ∷ rs) h k = (typed_marked step t h k.0, typed_inserted step (r ∷ rs) h k.1)

  split_left : (xs ys : List NumberedStep) → AllByRecursion IsTypedMark (xs ++ ys) → AllByRecursion IsTypedMark xs × AllByRecursion IsTypedMark ys
  split_left [] ys h = (tt, h)
  split_left (x ∷ xs) ys h = let r = split_left xs ys h.1 in ((h.0, r.0), r.1)

  typed_replaced : (dynamic : ℤ) (before : List NumberedStep) (step : NumberedStep) (after : List NumberedStep) (inner : Alternative)
      → IsTypedAlternative (alternative dynamic (before ++ step ∷ after)) → IsTypedAlternative inner → IsTypedAlternative (replaced_by dynamic before step after inner)
  typed_replaced dynamic before step after inner h k =
      let parts = split_left before (step ∷ after) h.steps in
      record {
        dynamic = stronger_number dynamic inner.dynamic h.dynamic k.dynamic;
        steps = all_append IsTypedMark (before ++ inserted step inner.steps) after
            (all_append IsTypedMark before (inserted step inner.steps) parts.0 (typed_inserted step inner.steps parts.1.0 k.steps)) parts.1.1;
      }

  module _ (Inner : ℕ → Alternatives → Type 0) (inner_typed : (k : ℕ) (xs : Alternatives) → Inner k xs → AreTypedAll xs) where
    mutual
      become_typed : (p : Alternative) (all : Alternatives) → IsTypedAlternative p → Becomes Inner p all → AreTypedAll all
      become_typed _ _ h (stays p stay) = (h, tt)
      become_typed _ _ h (replaced dynamic before step after inner all stay is become) =
          all_typed (map (replaced_by dynamic before step after) inner) all
          (all_mapped IsTypedAlternative IsTypedAlternative (replaced_by dynamic before step after) (λ q k. typed_replaced dynamic before step after q h k) inner (inner_typed step.symbol inner is))
          become

      pub all_typed : (ps all : Alternatives) → AreTypedAll ps → AllBecome Inner ps all → AreTypedAll all
      all_typed _ _ h none_left = tt
      all_typed _ _ h (one_more p ps qs rs one more) = all_append IsTypedAlternative qs rs (become_typed p qs h.0 one) (all_typed ps rs h.1 more)

  -- ---- repetitions

  typed_unless : (p : Alternative) (ss : List NumberedStep) → IsTypedAlternative p → AreTypedAll (unless_blank p ss)
  typed_unless p [] h = tt
  typed_unless p (s ∷ ss) h = (h, tt)

  pub filled_typed : (ps : Alternatives) → AreTypedAll ps → AreTypedAll (filled ps)
  filled_typed [] h = tt
  filled_typed (p ∷ ps) h = all_append IsTypedAlternative (unless_blank p p.steps) (filled ps) (typed_unless p p.steps h.0) (filled_typed ps h.1)

  pub again_typed : (k : ℕ) (ps : Alternatives) → AreTypedAll ps → AreTypedAll (again k ps)
  again_typed k ps h = all_mapped IsTypedAlternative IsTypedAlternative (λ (p : Alternative). alternative p.dynamic (step_at k outermost ∷ p.steps))
      (λ p t. record { dynamic = t.dynamic; steps = (record { prec = tt; alias = tt }, t.steps) }) ps h
