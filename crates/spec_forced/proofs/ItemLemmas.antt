-- The valid items decide the moves, and what is read after them keeps them alike.
use Rattle.std.proofs.Common.{◌≡◌, refl, subst, ℕ, inl, inr, ⊎_elim, List, [], ◌∷◌, ◌++◌}
use Rattle.ts_core.specs.declared.flat.Assoc.{Assoc}
use Rattle.ts_core.specs.declared.flat.FlatGrammar.{FlatGrammar}
use Rattle.ts_core.specs.declared.symbol.Symbol.{Symbol}
use Rattle.spec_tables.specs.Actions.{Move, Act, may_shift, may_reduce, may_accept, Reduces, ShiftItem, Shifts, IsTop, Remains, SomeHigher, SomeLower, AllAre, AreBoth, ShiftAlone, ReduceAlone}
use Rattle.spec_tables.specs.Items.{Item, start_item, advanced, Valid, begun, asked, advanced_past}
use Rattle.spec_runs.specs.Configurations.{HasMove, AreValidTokens}
use Rattle.spec_forced.specs.Forced.{HaveSameItems, IsOnlyMove}

-- ---- valid items

carries : (g : FlatGrammar) (x : ℕ) (a b : List ℕ) → ((i : Item) → Valid g a i → Valid g b i) → (l : List ℕ) (i : Item) → Valid g l i → l ≡ x ∷ a → Valid g (x ∷ b) i
carries g x a b h _ _ begun is = absurd (let e : [] ≡ x ∷ a = is in cc)
carries g x a b h l _ (asked _ i j v q) is = asked (x ∷ b) i j (carries g x a b h l i v is) q
carries g x a b h _ _ (advanced_past read i step v before) is =
    let same : step.symbol.0 ≡ x = cc in
    let rest : read ≡ a = cc in
    subst (λ (y : ℕ). Valid g (y ∷ b) (advanced i)) same (advanced_past b i step (h i (subst (λ (r : List ℕ). Valid g r i) rest v)) before)

pub same_back : (g : FlatGrammar) (a b : List ℕ) → HaveSameItems g a b → HaveSameItems g b a
same_back g a b same i = ((same i).1, (same i).0)

pub same_chain : (g : FlatGrammar) (a b c : List ℕ) → HaveSameItems g a b → HaveSameItems g b c → HaveSameItems g a c
same_chain g a b c f h i = ((λ v. (h i).0 ((f i).0 v)), (λ v. (f i).1 ((h i).1 v)))

pub same_self : (g : FlatGrammar) (a : List ℕ) → HaveSameItems g a a
same_self g a i = ((λ v. v), (λ v. v))

same_more : (g : FlatGrammar) (x : ℕ) (a b : List ℕ) → HaveSameItems g a b → HaveSameItems g (x ∷ a) (x ∷ b)
same_more g x a b same i = ((λ v. carries g x a b (λ j. (same j).0) (x ∷ a) i v refl), (λ v. carries g x b a (λ j. (same j).1) (x ∷ b) i v refl))

pub same_front : (g : FlatGrammar) (xs a b : List ℕ) → HaveSameItems g a b → HaveSameItems g (xs ++ a) (xs ++ b)
same_front g [] a b same = same
same_front g (x ∷ xs) a b same = same_more g x (xs ++ a) (xs ++ b) (same_front g xs a b same)

-- ---- moves

reduces_same : (g : FlatGrammar) (a b : List ℕ) (t : ℕ) → HaveSameItems g a b → (i : Item) → Reduces g a t i → Reduces g b t i
reduces_same g a b t same i r = record { number = r.number; valid = (same i).0 r.valid; line = r.line; complete = r.complete; on = r.on }

shift_item_same : (g : FlatGrammar) (a b : List ℕ) (t : ℕ) → HaveSameItems g a b → (i : Item) → ShiftItem g a t i → ShiftItem g b t i
shift_item_same g a b t same i s = record { valid = (same i).0 s.valid; past = s.past; step = s.step; before = s.before; begins = s.begins }

shifts_same : (g : FlatGrammar) (a b : List ℕ) (t : ℕ) → HaveSameItems g a b → Shifts g a t → Shifts g b t
shifts_same g a b t same s = record { is_token = s.is_token; item = s.item; valid = (same s.item).0 s.valid; step = s.step; before = s.before; is = s.is }

top_same : (g : FlatGrammar) (a b : List ℕ) (t : ℕ) → HaveSameItems g a b → (i : Item) → IsTop g a t i → IsTop g b t i
top_same g a b t same i top j r up = top j (reduces_same g b a t (same_back g a b same) j r) up

remains_same : (g : FlatGrammar) (a b : List ℕ) (t : ℕ) → HaveSameItems g a b → (i : Item) → Remains g a t i → Remains g b t i
remains_same g a b t same i r = record {
  reduces = reduces_same g a b t same i r.reduces;
  top = ⊎_elim (λ top. inl (top_same g a b t same i top))
      (λ none. inr (λ j q top. none j (reduces_same g b a t (same_back g a b same) j q) (top_same g b a t (same_back g a b same) j top))) r.top;
}

higher_same : (g : FlatGrammar) (a b : List ℕ) (t : ℕ) → HaveSameItems g a b → SomeHigher g a t → SomeHigher g b t
higher_same g a b t same (i, j, s, r, up) = (i, j, shift_item_same g a b t same i s, remains_same g a b t same j r, up)

lower_same : (g : FlatGrammar) (a b : List ℕ) (t : ℕ) → HaveSameItems g a b → SomeLower g a t → SomeLower g b t
lower_same g a b t same (i, j, s, r, up) = (i, j, shift_item_same g a b t same i s, remains_same g a b t same j r, up)

all_same : (g : FlatGrammar) (a b : List ℕ) (t : ℕ) (side : Assoc) → HaveSameItems g a b → AllAre g a t side → AllAre g b t side
all_same g a b t side same all i r = all i (remains_same g b a t (same_back g a b same) i r)

both_same : (g : FlatGrammar) (a b : List ℕ) (t : ℕ) → HaveSameItems g a b → AreBoth g a t → AreBoth g b t
both_same g a b t same x = record { shift = shifts_same g a b t same x.shift; reduction = x.reduction; stays = remains_same g a b t same x.reduction x.stays }

shift_alone_same : (g : FlatGrammar) (a b : List ℕ) (t : ℕ) → HaveSameItems g a b → ShiftAlone g a t → ShiftAlone g b t
shift_alone_same g a b t same x = record {
  both = both_same g a b t same x.both;
  not_lower = λ low. x.not_lower (lower_same g b a t (same_back g a b same) low);
  cause = ⊎_elim (λ up. inl (higher_same g a b t same up)) (λ all. inr (all_same g a b t _ same all)) x.cause;
}

reduce_alone_same : (g : FlatGrammar) (a b : List ℕ) (t : ℕ) → HaveSameItems g a b → ReduceAlone g a t → ReduceAlone g b t
reduce_alone_same g a b t same x = record {
  both = both_same g a b t same x.both;
  not_higher = λ up. x.not_higher (higher_same g b a t (same_back g a b same) up);
  cause = ⊎_elim (λ low. inl (lower_same g a b t same low)) (λ all. inr (all_same g a b t _ same all)) x.cause;
}

pub act_same : (g : FlatGrammar) (a b : List ℕ) (t : ℕ) (m : Move) → HaveSameItems g a b → Act g a t m → Act g b t m
act_same g a b t _ same (may_shift s alone) = may_shift (shifts_same g a b t same s) (λ r. alone (reduce_alone_same g b a t (same_back g a b same) r))
act_same g a b t _ same (may_reduce i number stays line alone) =
    may_reduce i number (remains_same g a b t same i stays) line (λ s. alone (shift_alone_same g b a t (same_back g a b same) s))
act_same g a b t _ same (may_accept is v) = may_accept is ((same (advanced start_item)).0 v)

pub only_same : (g : FlatGrammar) (a b : List ℕ) (t : ℕ) (m : Move) → HaveSameItems g a b → IsOnlyMove g a t m → IsOnlyMove g b t m
only_same g a b t m same o = record {
  stays = act_same g a b t m same o.stays;
  only = λ n act. o.only n (act_same g b a t n (same_back g a b same) act);
}

pub has_same : (g : FlatGrammar) (a b : List ℕ) (t : ℕ) → HaveSameItems g a b → HasMove g a t → HasMove g b t
has_same g a b t same (m, act) = (m, act_same g a b t m same act)

pub valid_same : (g : FlatGrammar) (a b : List ℕ) (valid : List Symbol) → HaveSameItems g a b → AreValidTokens g a valid → AreValidTokens g b valid
valid_same g a b valid same are s = (
  (λ h. ⊎_elim (λ m. inl (has_same g a b s.0 same m)) (λ x. inr x) ((are s).0 h)),
  (λ h. (are s).1 (⊎_elim (λ m. inl (has_same g b a s.0 (same_back g a b same) m)) (λ x. inr x) h)),
)
