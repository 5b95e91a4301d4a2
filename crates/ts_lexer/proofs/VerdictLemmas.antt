-- Equal verdicts, and the numbers of lists that are each kept once.
use Rattle.std.proofs.Common.{◌≡◌, ◌∙◌, sym, ap, refl, Bool, true, false, ℕ, List, [], ◌∷◌, ◌++◌, if◌then◌else◌, slice_get, Option, Some, None}
use Rattle.std.specs.Global.{Vec}
use Rattle.std.specs.Bool.{Decides}
use Rattle.std.specs.Cmp.{booleans_Decides}
use Rattle.std.specs.List.{list_any}
use Rattle.std.specs.Option.{option_eq, option_map}
use lib.Pointwise.{pointwise}
use Rattle.std.proofs.lemmas.Bool.Decides.{Decides-and, Decides-like, Decides-eqb}
use Rattle.std.proofs.lemmas.List.{append-nil}
use Rattle.std.proofs.lemmas.Slice.Eq.{slice_eq-Decides}
use Rattle.std.proofs.lemmas.Option.{slice_get-map}
use Rattle.indexmap.specs.IndexSet.{insert_key}
use Rattle.ts_core.specs.declared.symbol.Symbol.{Symbol}
use Rattle.ts_core.specs.contracts.symbol.SymbolPartialEq.TheImpl as symbol
use Rattle.ts_lexer.specs.declared.verdict.Verdict.{Verdict}
use Rattle.ts_lexer.specs.contracts.verdict.VerdictPartialEq.TheImpl as verdict
use Rattle.ts_lexer.specs.Ahead.{contents_of, IsNumbered}

false_true : {X : Type 0} → false ≡ true → X
false_true e = absurd (let f : false ≡ true = e in cc)

some_same : {X : Type 0} (v w : X) → Some v ≡ Some w → v ≡ w
some_same v w e = cc

none_some : {X : Type 0} (b : X) → None ≡ Some b → ⊥
none_some b e = cc

some_none : {X : Type 0} (a : X) → Some a ≡ None → ⊥
some_none a e = cc

option_decides : {X : Type 0} (E : X → X → Bool) → ((a b : X) → Decides (E a b) (a ≡ b)) → (x y : Option X) → Decides (option_eq E x y) (x ≡ y)
option_decides E decide None None = (λ h. refl, λ h. refl)
option_decides E decide None (Some b) = (λ h. false_true h, λ h. absurd (none_some b h))
option_decides E decide (Some a) None = (λ h. false_true h, λ h. absurd (some_none a h))
option_decides E decide (Some a) (Some b) = (λ h. ap (λ x. Some x) ((decide a b).0 h), λ h. (decide a b).1 (some_same a b h))

abbrev pub symbol_eq : Symbol → Symbol → Bool
symbol_eq = (symbol.eq-value).it

pub symbol_decides : (a b : Symbol) → Decides (symbol_eq a b) (a ≡ b)
symbol_decides a b = Decides-like (symbol_eq a b) (λ e. ap {B = Symbol} (λ (n : ℕ). record { 0 = n }) e) (λ e. ap (λ (s : Symbol). s.0) e) (Decides-eqb a.0 b.0)

abbrev pub verdict_eq : Verdict → Verdict → Bool
verdict_eq = (verdict.eq-value).it

abbrev made : Option Symbol → Option Symbol → Bool → Bool → Bool → Verdict
made plain keyword word separator lives = record { plain = plain; keyword = keyword; word = word; separator = separator; lives = lives }

pub verdict_decides : (a b : Verdict) → Decides (verdict_eq a b) (a ≡ b)
verdict_decides a b = Decides-like (verdict_eq a b)
    (λ w. ap (λ (x : Option Symbol). made x a.keyword a.word a.separator a.lives) w.0
    ∙ ap (λ (x : Option Symbol). made b.plain x a.word a.separator a.lives) w.1.0
    ∙ ap (λ (x : Bool). made b.plain b.keyword x a.separator a.lives) w.1.1.0
    ∙ ap (λ (x : Bool). made b.plain b.keyword b.word x a.lives) w.1.1.1.0
    ∙ ap (λ (x : Bool). made b.plain b.keyword b.word b.separator x) w.1.1.1.1)
    (λ e. (ap (λ (x : Verdict). x.plain) e, (ap (λ (x : Verdict). x.keyword) e, (ap (λ (x : Verdict). x.word) e, (ap (λ (x : Verdict). x.separator) e, ap (λ (x : Verdict). x.lives) e)))))
    (Decides-and _ _ (option_decides symbol_eq symbol_decides a.plain b.plain)
    (Decides-and _ _ (option_decides symbol_eq symbol_decides a.keyword b.keyword)
    (Decides-and _ _ (booleans_Decides a.word b.word)
    (Decides-and _ _ (booleans_Decides a.separator b.separator)
    (booleans_Decides a.lives b.lives)))))

module _ {X : Type 0} (eq : X → X → Bool) (decide : (x y : X) → Decides (eq x y) (x ≡ y)) where
  map_append : (xs ys : List (Vec X)) → contents_of (xs ++ ys) ≡ contents_of xs ++ contents_of ys
  map_append [] ys = refl
  map_append (x ∷ xs) ys = ap (λ (l : List (List X)). x.items ∷ l) (map_append xs ys)

  pub numbered : (old new : List (Vec X)) (row : Vec X) (n : ℕ) → new ≡ insert_key (λ (x y : Vec X). pointwise eq x.items y.items) old row → (k : Vec X) → slice_get new n ≡ Some k
      → pointwise eq row.items k.items ≡ true → IsNumbered (contents_of old) (contents_of new) row.items n
  numbered old new row n is k at same = by (list_any (λ (y : Vec X). pointwise eq row.items y.items) old) refl
    where
      place : slice_get (contents_of new) n ≡ Some row.items
      place = slice_get-map (λ (v : Vec X). v.items) new n ∙ ap (option_map (λ (v : Vec X). v.items)) at
          ∙ ap (λ (l : List X). Some l) (sym ((slice_eq-Decides decide row.items k.items (pointwise eq row.items k.items) refl).0 same))

      by : (b : Bool) → list_any (λ (y : Vec X). pointwise eq row.items y.items) old ≡ b → IsNumbered (contents_of old) (contents_of new) row.items n
      by true e = record {
        more = [];
        is = ap (λ (l : List (Vec X)). contents_of l) (is ∙ ap (λ (c : Bool). if c then old else old ++ row ∷ []) e) ∙ sym (append-nil (contents_of old));
        at = place;
      }
      by false e = record {
        more = row.items ∷ [];
        is = ap (λ (l : List (Vec X)). contents_of l) (is ∙ ap (λ (c : Bool). if c then old else old ++ row ∷ []) e) ∙ map_append old (row ∷ []);
        at = place;
      }
