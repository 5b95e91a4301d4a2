-- Words by their parts between commas.
use Rattle.std.proofs.Common.{◌≡◌, ◌≢◌, ◌∙◌, sym, ap, subst, refl, ℕ, zero, suc, Bor, ◌+◌, ◌<◌, inl, inr, List, [], ◌∷◌, ◌++◌, length, get_or, map, false, arith}
use Rattle.std.proofs.Math.Dec.{eqb}
use Rattle.std.proofs.lemmas.Bool.{cases_lt, ne_eqb, eq-eqb}
use Rattle.std.proofs.lemmas.Fmt.{decimal_digit, decimal_is_IsNumeral}
use Rattle.std.proofs.lemmas.List.Elements.{All-nil, All-cons, All-head, All-tail}
use Rattle.std.proofs.lemmas.List.Splits.{slice_split_none, slice_split_at, join_with_byte-slice_split}
use Rattle.std.specs.Fmt.{decimal}
use Rattle.std.specs.List.{All, slice_split, join_with_byte}
use Rattle.std.specs.Str.Parse.{digits_value}
use Rattle.ts_base.specs.Bytes.{Bytes}
use Rattle.ts_turns.specs.Turns.{most_clients, comma, Spells}
use Rattle.ts_turns.proofs.NumeralLemmas.{two_digits}

-- the parts of a word between commas
abbrev pub parts_of : Bytes → List Bytes
parts_of word = slice_split (λ b. eqb b comma) word

-- a numeral has no comma in it
abbrev LacksComma : Bytes → Type 0
LacksComma bs = All (λ b. eqb b comma ≡ false) bs

one_lacks : (b : ℕ) → b ≢ comma → LacksComma (b ∷ [])
one_lacks b h = All-cons (λ x. eqb x comma ≡ false) b [] (ne_eqb b comma h) (All-nil (λ x. eqb x comma ≡ false))

lacks_comma : (n : ℕ) → n < most_clients → LacksComma (decimal n)
lacks_comma n h = elim (cases_lt n 10) [
  | inl small ↦ subst LacksComma (sym (decimal_digit n small)) (one_lacks (48 + n) (λ e. omega (arith, e)))
  | inr big ↦ subst LacksComma (sym (two_digits n big h)) (All-cons (λ x. eqb x comma ≡ false) 49 ((38 + n) ∷ []) (ne_eqb 49 comma (λ e. omega (arith, e))) (one_lacks (38 + n) (λ e. omega (arith, e, big))))
]

-- ---- joined numerals have the numerals as their parts

abbrev AreClients : List ℕ → Type 0
AreClients order = All (λ (n : ℕ). n < most_clients) order

parts_joined : (n : ℕ) (order : List ℕ) → AreClients (n ∷ order) → parts_of (join_with_byte comma (map decimal (n ∷ order))) ≡ map decimal (n ∷ order)
parts_joined n [] h = slice_split_none (λ b. eqb b comma) (decimal n) (lacks_comma n (All-head (λ (m : ℕ). m < most_clients) n [] h))
parts_joined n (m ∷ order) h =
    let first = lacks_comma n (All-head (λ (k : ℕ). k < most_clients) n (m ∷ order) h) in
    slice_split_at (λ b. eqb b comma) (decimal n) comma (join_with_byte comma (map decimal (m ∷ order))) first (eq-eqb comma comma refl)
    ∙ ap (λ (ps : List Bytes). decimal n ∷ ps) (parts_joined m order (All-tail (λ (k : ℕ). k < most_clients) n (m ∷ order) h))

-- the parts of a word that is not empty are the numerals that it spells
pub parts_spelled : (word : Bytes) (order : List ℕ) → (word ≡ [] → ⊥) → Spells word order → parts_of word ≡ map decimal order
parts_spelled word [] some s = absurd (some s.is)
parts_spelled word (n ∷ order) some s = ap parts_of s.is ∙ parts_joined n order s.below

-- ---- reading the parts

-- the parts are the numerals of these clients
pub record AreNamed (parts : List Bytes) (order : List ℕ) : Type 0 where
  pub below : AreClients order
  pub are : parts ≡ map decimal order

pub named_none : AreNamed [] []
named_none = record { below = All-nil (λ (n : ℕ). n < most_clients); are = refl }

pub spells_all : (word : Bytes) (order : List ℕ) → AreNamed (parts_of word) order → Spells word order
spells_all word order h = record { below = h.below; is = sym (join_with_byte-slice_split comma word) ∙ ap (join_with_byte comma) h.are }

-- ---- one order

decimal_value : (n : ℕ) → n < most_clients → digits_value 10 (decimal n) ≡ n
decimal_value n h = (decimal_is_IsNumeral n (omega (arith, h))).1

values : (order : List ℕ) → AreClients order → map (digits_value 10) (map decimal order) ≡ order
values [] h = refl
values (n ∷ order) h =
    ap (λ (k : ℕ). k ∷ map (digits_value 10) (map decimal order)) (decimal_value n (All-head (λ (k : ℕ). k < most_clients) n order h))
    ∙ ap (λ (ks : List ℕ). n ∷ ks) (values order (All-tail (λ (k : ℕ). k < most_clients) n order h))

same_numerals : (a b : List ℕ) → AreClients a → AreClients b → map decimal a ≡ map decimal b → a ≡ b
same_numerals a b h k e = sym (values a h) ∙ ap (map (digits_value 10)) e ∙ values b k

-- ---- one step of the reading

joined_map : {A B : Type 0} (f : A → B) (xs : List A) (x : A) → map f (xs ++ x ∷ []) ≡ map f xs ++ f x ∷ []
joined_map f [] x = refl
joined_map f (y ∷ xs) x = ap (λ (ys : List _). f y ∷ ys) (joined_map f xs x)

clients_and : (order : List ℕ) (n : ℕ) → AreClients order → n < most_clients → AreClients (order ++ n ∷ [])
clients_and [] n h small = All-cons (λ (k : ℕ). k < most_clients) n [] small (All-nil (λ (k : ℕ). k < most_clients))
clients_and (m ∷ order) n h small =
    All-cons (λ (k : ℕ). k < most_clients) m (order ++ n ∷ []) (All-head (λ (k : ℕ). k < most_clients) m order h)
    (clients_and order n (All-tail (λ (k : ℕ). k < most_clients) m order h) small)

pub named_and : (read : List (Bor Bytes)) (part : Bor Bytes) (order : List ℕ) (n : ℕ) → AreNamed (map (λ (p : Bor Bytes). p.now) read) order → n < most_clients → part.now ≡ decimal n
    → AreNamed (map (λ (p : Bor Bytes). p.now) (read ++ part ∷ [])) (order ++ n ∷ [])
named_and read part order n h small is = record {
  below = clients_and order n h.below small;
  are = joined_map (λ (p : Bor Bytes). p.now) read part ∙ ap (λ (ps : List Bytes). ps ++ part.now ∷ []) h.are ∙ ap (λ (p : Bytes). map decimal order ++ p ∷ []) is ∙ sym (joined_map decimal order n);
}

numeral_at : (order : List ℕ) (k : ℕ) (part : Bytes) → AreClients order → k < length (map decimal order) → part ≡ get_or (map decimal order) k part → (n : ℕ) × (n < most_clients) × (part ≡ decimal n)
numeral_at [] k part h inside at = absurd (omega (arith, inside))
numeral_at (n ∷ order) zero part h inside at = (n, All-head (λ (m : ℕ). m < most_clients) n order h, at)
numeral_at (n ∷ order) (suc k) part h inside at = numeral_at order k part (All-tail (λ (m : ℕ). m < most_clients) n order h) (omega (arith, inside)) at

-- each part of a word that spells clients is a numeral of one
pub part_is_numeral : (word : Bytes) (order : List ℕ) (k : ℕ) (part : Bytes) → (word ≡ [] → ⊥) → Spells word order → k < length (parts_of word) → part ≡ get_or (parts_of word) k part
    → (n : ℕ) × (n < most_clients) × (part ≡ decimal n)
part_is_numeral word order k part some s inside at =
    let e = parts_spelled word order some s in
    numeral_at order k part s.below (subst (λ (ps : List Bytes). k < length ps) e inside) (at ∙ ap (λ (ps : List Bytes). get_or ps k part) e)

never_empty : (n : ℕ) (order : List ℕ) → n < most_clients → [] ≡ join_with_byte comma (map decimal (n ∷ order)) → ⊥
never_empty n order h e =
    elim (cases_lt n 10) [
      | inl small ↦ first_filled n order (48 + n) [] (decimal_digit n small) e
      | inr big ↦ first_filled n order 49 ((38 + n) ∷ []) (two_digits n big h) e
    ]
  where
    filled : (b : ℕ) (bs more : Bytes) → [] ≡ b ∷ (bs ++ more) → ⊥
    filled b bs more e = absurd (omega (arith, ap length e))

    first_filled : (n : ℕ) (order : List ℕ) (b : ℕ) (bs : Bytes) → decimal n ≡ b ∷ bs → [] ≡ join_with_byte comma (map decimal (n ∷ order)) → ⊥
    first_filled n [] b bs d e = absurd (omega (arith, ap length (e ∙ d)))
    first_filled n (m ∷ order) b bs d e = filled b bs (comma ∷ join_with_byte comma (map decimal (m ∷ order))) (e ∙ ap (λ (x : Bytes). x ++ comma ∷ join_with_byte comma (map decimal (m ∷ order))) d)

empty_spells : (order : List ℕ) → Spells [] order → order ≡ []
empty_spells [] s = refl
empty_spells (n ∷ order) s = absurd (never_empty n order (All-head (λ (m : ℕ). m < most_clients) n order s.below) s.is)

pub spelled_once : (word : Bytes) (a b : List ℕ) → Spells word a → Spells word b → a ≡ b
spelled_once [] a b s t = empty_spells a s ∙ sym (empty_spells b t)
spelled_once (x ∷ word) a b s t =
    let some : (x ∷ word ≡ [] → ⊥) = λ e. absurd (omega (arith, ap length e)) in
    same_numerals a b s.below t.below (sym (parts_spelled (x ∷ word) a some s) ∙ parts_spelled (x ∷ word) b some t)
