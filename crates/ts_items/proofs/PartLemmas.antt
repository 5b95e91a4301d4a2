-- Parts that begin lines.
use Rattle.std.proofs.Common.{◌≡◌, ◌∙◌, sym, ap, refl, subst, ℕ, ◌+◌, ◌<◌, ⊎_elim, List, [], ◌∷◌, ◌++◌, length, take, get_or, slice_get, Some, arith, ◌↔◌, append_assoc}
use Rattle.std.specs.Global.{Vec}
use Rattle.std.specs.List.{Contains}
use Rattle.std.proofs.lemmas.List.{take_more}
use Rattle.std.proofs.lemmas.List.Elements.{Contains-append_left, Contains-append_right, Contains-append_cases, Contains-push, Contains-push_cases}
use Rattle.std.proofs.lemmas.Option.{slice_get_within}
use Rattle.ts_bits.specs.declared.set.BitSet.{BitSet}
use Rattle.ts_bits.specs.Members.{Has}
use Rattle.ts_items.specs.declared.part.Part.{Part}
use Rattle.ts_items.specs.Sets.{HasAt}
use Rattle.ts_items.specs.Closing.{AddsParts, AddsBegun, BeginsAt, AreBegun, AddsSets}
use Rattle.ts_items.proofs.ListLemmas.{cases_lt_or_eq, one_at, at_grown, some_at}
use Rattle.ts_items.proofs.GainLemmas.{has_at}

part_of : (p q : Part) → p.line ≡ q.line → p.dot ≡ q.dot → p.tokens ≡ q.tokens → p ≡ q
part_of p q a b c = λ k. record { line = a k; dot = b k; tokens = c k }

-- the part that begins a line
abbrev begun_part : ℕ → ℕ → Part
begun_part line tokens = record { line = line; dot = 0; tokens = tokens }

abbrev pub OfLines : List ℕ → ℕ → Part → Type 0
OfLines lines tokens q = Contains lines q.line × (q.dot ≡ 0) × (q.tokens ≡ tokens)

pub lines_step : (lines : List ℕ) (k d tokens : ℕ) (old now new : List Part) → k < length lines → new ≡ now ++ (record { line = get_or lines k d; dot = 0; tokens = tokens }) ∷ [] → AddsParts (OfLines (take k lines) tokens) old now → AddsParts (OfLines (take (k + 1) lines) tokens) old new
lines_step lines k d tokens old now new below is adds = record {
  more = adds.more ++ one ∷ [];
  is = is ∙ ap (λ (l : List Part). l ++ one ∷ []) adds.is ∙ append_assoc old adds.more (one ∷ []);
  members = λ q. (
    (λ h. ⊎_elim
        (λ w. let m = (adds.members q).0 w in (subst (λ (l : List ℕ). Contains l q.line) (sym whole) (Contains-append_left (take k lines) (get_or lines k d ∷ []) q.line m.0), m.1, m.2))
        (λ e. (
          subst (λ (l : List ℕ). Contains l q.line) (sym whole) (subst (Contains (take k lines ++ get_or lines k d ∷ [])) (ap (λ (p : Part). p.line) e) (Contains-push (take k lines) (get_or lines k d))),
          ap (λ (p : Part). p.dot) (sym e),
          ap (λ (p : Part). p.tokens) (sym e),
        ))
        (Contains-push_cases adds.more one q h)),
    (λ h. ⊎_elim
        (λ w. Contains-append_left adds.more (one ∷ []) q ((adds.members q).1 (w, h.1, h.2)))
        (λ e. subst (Contains (adds.more ++ one ∷ [])) (part_of one q e (sym h.1) (sym h.2)) (Contains-push adds.more one))
        (Contains-push_cases (take k lines) (get_or lines k d) q.line (subst (λ (l : List ℕ). Contains l q.line) whole h.0))),
  );
}
  where
    one : Part
    one = record { line = get_or lines k d; dot = 0; tokens = tokens }

    whole : take (k + 1) lines ≡ take k lines ++ get_or lines k d ∷ []
    whole = take_more lines k d below

pub lines_end : (lines : List ℕ) (k tokens : ℕ) (old now : List Part) → take k lines ≡ lines → AddsParts (OfLines (take k lines) tokens) old now → AddsParts (OfLines lines tokens) old now
lines_end lines k tokens old now e h = subst (λ (l : List ℕ). AddsParts (OfLines l tokens) old now) e h

pub begins_lines : (pool : List BitSet) (lines : List ℕ) (set : BitSet) (t place : ℕ) (old new : List Part) → Has set t → place < length pool → ((u : ℕ) → HasAt pool place u ↔ Has set u) → AddsParts (OfLines lines place) old new → AddsBegun pool lines set old new
begins_lines pool lines set t place old new has inside same adds = record {
  more = adds.more;
  is = adds.is;
  only = λ q h.
      let m = (adds.members q).0 h in
      let e = m.2 in
      (record { line = m.0; dot = m.1; inside = omega (arith, inside, e); same = λ u. subst (λ (k : ℕ). HasAt pool k u ↔ Has set u) (sym e) (same u) }, (t, has));
  added = λ line u there h. let q = begun_part line place in (begun_part line place, (adds.members (begun_part line place)).1 (there, refl, refl), refl);
}

pub grows_both : {X : Type 0} (a b c : List X) → AddsSets a b → AddsSets b c → AddsSets a c
grows_both {X} a b c p q = record { more = p.more ++ q.more; is = q.is ∙ ap (λ (l : List X). l ++ q.more) p.is ∙ append_assoc a p.more q.more }

pub grown_has : (old new : List BitSet) (k : ℕ) → AddsSets old new → k < length old → (t : ℕ) → HasAt new k t ↔ HasAt old k t
grown_has old new k grows inside t =
    let s = some_at old k inside in
    let n = at_grown old new grows.more k s.0 grows.is s.1 in (
      (λ h. (has_at old k s.0 s.1 t).1 ((has_at new k s.0 n t).0 h)),
      (λ h. (has_at new k s.0 n t).1 ((has_at old k s.0 s.1 t).0 h)),
    )

pub grown_length : {X : Type 0} (old new : List X) (k : ℕ) → AddsSets old new → k < length old → k < length new
grown_length {X} old new k grows lt = let s = some_at old k lt in slice_get_within new k s.0 (at_grown old new grows.more k s.0 grows.is s.1)

pub begins_grown : (lines : List (Vec ℕ)) (asked old new : List BitSet) (y : ℕ) (q : Part) → AddsSets old new → BeginsAt lines asked old y q → BeginsAt lines asked new y q
begins_grown lines asked old new y q grows b = record {
  line = b.line;
  dot = b.dot;
  inside = grown_length old new q.tokens grows b.inside;
  some = b.some;
  same = λ t. let g = grown_has old new q.tokens grows b.inside t in let s = b.same t in ((λ h. s.0 (g.0 h)), (λ h. g.1 (s.1 h)));
}

pub begun_more : (lines : List (Vec ℕ)) (asked old new : List BitSet) (k : ℕ) (row : Vec ℕ) (items : List ℕ) (set : BitSet) (start now next : List Part) → slice_get lines k ≡ Some row → items ≡ row.items → slice_get asked k ≡ Some set → AddsSets old new
    → AreBegun lines asked old k start now → AddsBegun new items set now next → AreBegun lines asked new (k + 1) start next
begun_more lines asked old new k row items set start now next at same here grows before adds = record {
  more = before.more ++ adds.more;
  is = adds.is ∙ ap (λ (l : List Part). l ++ adds.more) before.is ∙ append_assoc start before.more adds.more;
  only = λ q h. ⊎_elim
      (λ w. let b = before.only q w in (b.0, begins_grown lines asked old new b.0 q grows b.1))
      (λ w. let b = adds.only q w in (
        k,
        record {
          line = record { row = row; at = at; has = subst (λ (l : List ℕ). Contains l q.line) same b.0.line };
          dot = b.0.dot;
          inside = b.0.inside;
          some = (b.1.0, (has_at asked k set here b.1.0).1 b.1.1);
          same = λ t. let s = b.0.same t in let a = has_at asked k set here t in ((λ x. a.1 (s.0 x)), (λ x. s.1 (a.0 x)));
        },
      ))
      (Contains-append_cases before.more adds.more q h);
  added = λ y line t lt row' has. ⊎_elim
      (λ w. let q = before.added y line t w row' has in (q.0, Contains-append_left before.more adds.more q.0 q.1, q.2))
      (λ e.
      let there : Contains items line = subst (λ (l : List ℕ). Contains l line) (sym same) (subst (λ (v : Vec ℕ). Contains v.items line) (one_at lines k row'.row row (subst (λ (n : ℕ). slice_get lines n ≡ Some row'.row) e row'.at) at) row'.has) in
      let q = adds.added line t there ((has_at asked k set here t).0 (subst (λ (n : ℕ). HasAt asked n t) e has)) in
      (q.0, Contains-append_right before.more adds.more q.0 q.1, q.2))
      (cases_lt_or_eq y k lt);
}
