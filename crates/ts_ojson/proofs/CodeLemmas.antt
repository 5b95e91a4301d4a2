-- What the code asks for, from what the bytes so far lead to.
use Rattle.std.proofs.Common.{◌≡◌, ◌⊎◌, inl, inr, ℕ, List, [], ◌∷◌, ◌++◌, Bool, true, false, cond, ◌||◌, ◌&&◌, Option, None, Some, subst, not, get_or, refl, sym, ap, ◌∙◌}
use Rattle.std.proofs.lemmas.Slice.Eq.{bytes_eq-Decides}
use Rattle.std.proofs.lemmas.Map.Text.{is_eq-slice_cmp}
use Rattle.std.specs.Cmp.{tied_then, nat_cmp_is}
use Rattle.std.specs.Cmp.Lexicographic.{slice_cmp}
use Rattle.std.specs.BTreeSet.{BTreeSet, contains}
use Rattle.std.specs.Int.{w64, from_be_bytes}
use Rattle.std.specs.Ordering.{is_eq, nat_cmp}
use Rattle.std.specs.declared.cmp.Ordering.TheVariants.{Equal}
use Rattle.std.specs.Str.{bytes_eq}
use Rattle.ts_ojson.specs.declared.fault.OFault.{OFault}
use Rattle.ts_ojson.specs.declared.fault.OFault.TheVariants.{Syntax, Utf8, Deep, Duplicate, Memory}
use Rattle.std.specs.Prelude.{IsErrAnd, IfOk, IfErr, MatchOption}
use Rattle.std.specs.declared.result.Result.{Result}
use Rattle.std.specs.declared.result.Result.TheVariants.{Ok, Err}
use Rattle.ts_ojson.specs.declared.value.OJson.{OJson}
use Rattle.ts_ojson.specs.Gathered.{has_name, has_either, has_key, leading, key_cmp}
use Rattle.ts_ojson.specs.Reads.{Reads, IsFault}
use Rattle.ts_ojson.proofs.LawLemmas.{refused_not_read, one_fault}

-- ---- names
has_more : {V : Type 0} (n m : List ℕ) (v : V) (ms : List (List ℕ × V)) → has_name n (ms ++ (m, v) ∷ []) ≡ cond (bytes_eq m n) true (has_name n ms)
has_more n m v [] = both (bytes_eq n m) (bytes_eq m n) (flip n m)
  where
    both : (x y : Bool) → x ≡ y → (x || false) ≡ cond y true false
    both true y e = ap (λ t. cond t true false) e
    both false y e = ap (λ t. cond t true false) e

    flip : (n m : List ℕ) → bytes_eq n m ≡ bytes_eq m n
    flip n m = same (bytes_eq n m) (bytes_eq m n) (λ e. (bytes_eq-Decides m n).1 (sym ((bytes_eq-Decides n m).0 e))) (λ e. (bytes_eq-Decides n m).1 (sym ((bytes_eq-Decides m n).0 e)))
      where
        same : (x y : Bool) → (x ≡ true → y ≡ true) → (y ≡ true → x ≡ true) → x ≡ y
        same true y f g = sym (f refl)
        same false true f g = g refl
        same false false f g = refl
has_more n m v (x ∷ ms) = ap (λ t. bytes_eq n x.0 || t) (has_more n m v ms) ∙ swap (bytes_eq n x.0) (bytes_eq m n) (has_name n ms)
  where
    swap : (x y z : Bool) → (x || cond y true z) ≡ cond y true (x || z)
    swap true true z = refl
    swap true false z = refl
    swap false true z = refl
    swap false false z = refl

pub has_added : {V : Type 0} (n m : List ℕ) (v : V) (ms : List (List ℕ × V)) (x : Bool) → x ≡ has_either n m ms → x ≡ has_name n (ms ++ (m, v) ∷ [])
has_added n m v ms x e = e ∙ sym (has_more n m v ms)

same_key : (m n : List ℕ) → is_eq (key_cmp (leading m, m) (leading n, n)) ≡ bytes_eq m n
same_key m n = sym (tied_then (nat_cmp (leading m) (leading n)) (slice_cmp nat_cmp m n)) ∙ ap (λ t. is_eq (nat_cmp (leading m) (leading n)) && t) (is_eq-slice_cmp m n) ∙ follows (is_eq (nat_cmp (leading m) (leading n))) (bytes_eq m n) (λ e. alike m n ((bytes_eq-Decides m n).0 e))
  where
    alike : (m n : List ℕ) → m ≡ n → is_eq (nat_cmp (leading m) (leading n)) ≡ true
    alike m n e = sym (ap (λ t. is_eq (nat_cmp (leading m) (leading t))) e) ∙ sym (ap is_eq (nat_cmp_is (leading m) (leading m) Equal refl))

    follows : (x y : Bool) → (y ≡ true → x ≡ true) → (x && y) ≡ y
    follows true y f = refl
    follows false true f = f refl
    follows false false f = refl

pub is_claimed : {V : Type 0} (n m : List ℕ) (ms : List (List ℕ × V)) (key : ℕ × List ℕ) (x y : Bool) → key ≡ (leading m, m) → x ≡ has_name n ms → y ≡ cond (is_eq (key_cmp key (leading n, n))) true x → y ≡ has_either n m ms
is_claimed n m ms key x y e g f = f ∙ ap (λ t. cond (is_eq (key_cmp t (leading n, n))) true x) e ∙ ap (λ t. cond t true x) (same_key m n) ∙ ap (cond (bytes_eq m n) true) g

pub leading_is : (w : List ℕ) (r a b c d e f g h : ℕ) → a ≡ get_or w 0 0 → b ≡ get_or w 1 0 → c ≡ get_or w 2 0 → d ≡ get_or w 3 0 → e ≡ get_or w 4 0 → f ≡ get_or w 5 0 → g ≡ get_or w 6 0 → h ≡ get_or w 7 0 → r ≡ from_be_bytes w64 (a ∷ b ∷ c ∷ d ∷ e ∷ f ∷ g ∷ h ∷ []) → r ≡ leading w
unfolding leading
leading_is w r a b c d e f g h e0 e1 e2 e3 e4 e5 e6 e7 is = is
    ∙ ap (λ t. from_be_bytes w64 (t ∷ b ∷ c ∷ d ∷ e ∷ f ∷ g ∷ h ∷ [])) e0
    ∙ ap (λ t. from_be_bytes w64 (get_or w 0 0 ∷ t ∷ c ∷ d ∷ e ∷ f ∷ g ∷ h ∷ [])) e1
    ∙ ap (λ t. from_be_bytes w64 (get_or w 0 0 ∷ get_or w 1 0 ∷ t ∷ d ∷ e ∷ f ∷ g ∷ h ∷ [])) e2
    ∙ ap (λ t. from_be_bytes w64 (get_or w 0 0 ∷ get_or w 1 0 ∷ get_or w 2 0 ∷ t ∷ e ∷ f ∷ g ∷ h ∷ [])) e3
    ∙ ap (λ t. from_be_bytes w64 (get_or w 0 0 ∷ get_or w 1 0 ∷ get_or w 2 0 ∷ get_or w 3 0 ∷ t ∷ f ∷ g ∷ h ∷ [])) e4
    ∙ ap (λ t. from_be_bytes w64 (get_or w 0 0 ∷ get_or w 1 0 ∷ get_or w 2 0 ∷ get_or w 3 0 ∷ get_or w 4 0 ∷ t ∷ g ∷ h ∷ [])) e5
    ∙ ap (λ t. from_be_bytes w64 (get_or w 0 0 ∷ get_or w 1 0 ∷ get_or w 2 0 ∷ get_or w 3 0 ∷ get_or w 4 0 ∷ get_or w 5 0 ∷ t ∷ h ∷ [])) e6
    ∙ ap (λ t. from_be_bytes w64 (get_or w 0 0 ∷ get_or w 1 0 ∷ get_or w 2 0 ∷ get_or w 3 0 ∷ get_or w 4 0 ∷ get_or w 5 0 ∷ get_or w 6 0 ∷ t ∷ [])) e7

pub taken_or_new : {V : Type 0} (m : List ℕ) (ms : List (List ℕ × V)) (key : ℕ × List ℕ) (names : BTreeSet (ℕ × List ℕ)) (b : Bool) → key ≡ (leading m, m) → has_key m names ≡ has_name m ms → b ≡ not (contains key_cmp names key) → has_name m ms ≡ not b
taken_or_new m ms key names b e g f = sym g ∙ sym (ap (contains key_cmp names) e) ∙ sym (twice (contains key_cmp names key)) ∙ sym (ap not f)
  where
    twice : (x : Bool) → not (not x) ≡ x
    twice true = refl
    twice false = refl

-- what a claim of a name answers
abbrev pub IsAnswer : {V : Type 0} → Option (List (List ℕ × V) × List ℕ) → List ℕ → List (List ℕ × V) → Type 0
IsAnswer o n ms = MatchOption o (has_name n ms ≡ true) (λ c. (has_name n ms ≡ false) × (c ≡ (ms, n)))

pub claim_taken : {V : Type 0} (o : Option (List (List ℕ × V) × List ℕ)) (n : List ℕ) (ms : List (List ℕ × V)) → o ≡ None → IsAnswer o n ms → has_name n ms ≡ true
claim_taken o n ms e h = subst (λ t. IsAnswer t n ms) e h

pub claim_made : {V : Type 0} (o : Option (List (List ℕ × V) × List ℕ)) (c : List (List ℕ × V) × List ℕ) (n : List ℕ) (ms : List (List ℕ × V)) → o ≡ Some c → IsAnswer o n ms → (has_name n ms ≡ false) × (c ≡ (ms, n))
claim_made o c n ms e h = subst (λ t. IsAnswer t n ms) e h

-- ---- the answer
pub complete_is : (r : Result OJson OFault) (w : List ℕ) → IfErr r (λ e. IsFault e w) → IfErr r (λ e. (e ≡ Memory → ⊥) → (v : OJson) → Reads v w → ⊥)
complete_is (Ok v) w h = tt
complete_is (Err e) w h = λ m v x. refused_not_read e v w m h x

pub one_or_memory : (e f : OFault) (w : List ℕ) → IsFault e w → (f ≡ Memory → ⊥) → IsFault f w → (e ≡ f) ⊎ (e ≡ Memory)
one_or_memory Memory f w h m g = inr refl
one_or_memory (Syntax p) f w h m g = inl (one_fault (Syntax p) f w (λ x. cc) m h g)
one_or_memory (Utf8 p) f w h m g = inl (one_fault (Utf8 p) f w (λ x. cc) m h g)
one_or_memory (Deep p) f w h m g = inl (one_fault (Deep p) f w (λ x. cc) m h g)
one_or_memory (Duplicate p) f w h m g = inl (one_fault (Duplicate p) f w (λ x. cc) m h g)

pub exact_is : (r : Result OJson OFault) (w : List ℕ) → IfOk r (λ v. Reads v w) → IfErr r (λ e. IsFault e w) → (f : OFault) → (f ≡ Memory → ⊥) → IsFault f w → IsErrAnd r (λ e. (e ≡ f) ⊎ (e ≡ Memory))
exact_is (Ok v) w ok h f m g = absurd (refused_not_read f v w m g ok)
exact_is (Err e) w ok h f m g = one_or_memory e f w h m g
