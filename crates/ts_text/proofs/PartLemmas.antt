-- One part of an edit after another.
use Rattle.std.proofs.Common.{◌≡◌, ◌∙◌, sym, ap, subst, ℕ, suc, ◌+◌, ◌-◌, ◌*◌, ◌≤◌, ◌<◌, ◌⊎◌, inl, inr, ⊎_elim, refl, List, [], ◌∷◌, ◌++◌, All, length, take, drop, get_or, slice_get, Some, arith}
use Rattle.std.specs.List.{slice_range}
use Rattle.std.specs.Str.{IsCharBoundary}
use Rattle.std.proofs.lemmas.List.{append_assoc, drop_more, drop_all, take_all, take_rest, length-append, length-take, length-drop}
use Rattle.std.proofs.lemmas.List.Elements.{All-get_or}
use Rattle.std.proofs.lemmas.List.Elements.{All-more}
use Rattle.std.proofs.lemmas.Option.{slice_get-get_or, slice_get_within, get_or_from_slice_get}
use Rattle.std.proofs.lemmas.Bool.{cases_lt}
use Rattle.std.proofs.lemmas.Str.{IsCharBoundary-start, IsCharBoundary-end}
use Rattle.ts_base.specs.Bytes.{Bytes}
use Rattle.ts_text.specs.declared.edit.Part.{Part}
use Rattle.ts_text.specs.Edit.{AreApart, IsPartOf, replaced_from}
use Rattle.ts_text.specs.Parts.{AreApartTo, IsAt, IsRewritten, IsSize}
use Rattle.ts_text.specs.Text.{IsText, most_bytes}

pub begins : (text : Bytes) (parts : List Part) → IsText text → IsAt text parts 0 0
begins text parts is = record {
  on = IsCharBoundary-start text is.utf8;
  few = omega arith;
  next = λ p at. (omega arith, omega arith);
}

here : (parts : List Part) (i : ℕ) (p : Part) → i < length parts → p ≡ get_or parts i p → slice_get parts i ≡ Some p
here parts i p lt is = slice_get-get_or parts i p lt ∙ ap (λ (q : Part). Some q) (sym is)

part_there : (text : Bytes) (parts : List Part) (i : ℕ) (p : Part) → All (IsPartOf text) parts → i < length parts → p ≡ get_or parts i p → IsPartOf text p
part_there text parts i p within lt is = subst (λ (q : Part). IsPartOf text q) (sym is) (All-get_or (IsPartOf text) parts i p lt within)

-- where a part goes on from
pub goes_on : (text : Bytes) (parts : List Part) (i place : ℕ) (p : Part) → All (IsPartOf text) parts → AreApart parts
    → i < length parts → p ≡ get_or parts i p → IsAt text parts i place → IsAt text parts (i + 1) p.end
goes_on text parts i place p within apart lt is at =
    let part = part_there text parts i p within lt is in
    let low = at.next p (here parts i p lt is) in
    let ordered : p.start ≤ p.end = part.ordered in
    let count : i ≤ p.start = low.1 in
    let on : i + 1 ≡ suc i = omega arith in
    record {
      on = part.end_on;
      few = omega arith;
      next = λ q there.
          let below : p.end < q.start = apart i p q (here parts i p lt is) (ap (λ (n : ℕ). slice_get parts n) (sym on) ∙ there) in
          (omega arith, omega arith);
    }

-- what a part has to know of its place
pub record Ready (text : Bytes) (place : ℕ) (p : Part) : Type 0 where
  pub ordered : place ≤ p.start
  pub from : IsCharBoundary text place
  pub to : IsCharBoundary text p.start

pub is_ready : (text : Bytes) (parts : List Part) (i place : ℕ) (p : Part) → All (IsPartOf text) parts
    → i < length parts → p ≡ get_or parts i p → IsAt text parts i place → Ready text place p
is_ready text parts i place p within lt is at =
    let part = part_there text parts i p within lt is in
    record { ordered = (at.next p (here parts i p lt is)).0; from = at.on; to = part.start_on }

-- the part that comes, and what comes after it
pub unrolled : (text : Bytes) (parts : List Part) (i place : ℕ) (p : Part) → i < length parts → p ≡ get_or parts i p
    → replaced_from text place (drop i parts)
    ≡ slice_range text place p.start ++ p.new ++ replaced_from text p.end (drop (i + 1) parts)
unrolled text parts i place p lt is =
    ap (λ (ps : List Part). replaced_from text place ps) (drop_more parts i p lt ∙ ap (λ (q : Part). q ∷ drop (i + 1) parts) (sym is))

-- ---- the size

slice_length : (text : Bytes) (a b : ℕ) → a ≤ b → b ≤ length text → length (slice_range text a b) ≡ b - a
slice_length text a b low high = omega (arith, length-take (b - a) (drop a text), length-drop a text)

pub sized : (text : Bytes) (parts : List Part) (i place size : ℕ) (p : Part) → IsText text → IsText p.new → All (IsPartOf text) parts → AreApart parts
    → i < length parts → p ≡ get_or parts i p → IsSize text parts i place size
    → IsSize text parts (i + 1) p.end (size + (p.start - place + length p.new))
sized text parts i place size p old new within apart lt is s =
    let part = part_there text parts i p within lt is in
    let ready = is_ready text parts i place p within lt is s.at in
    let low : place ≤ p.start = ready.ordered in
    let ordered : p.start ≤ p.end = part.ordered in
    let inside : p.start ≤ length text = part.start_on.0 in
    let few : length p.new ≤ most_bytes = new.within in
    let bound : size ≤ place + i * most_bytes = s.bound in
    let one : length (slice_range text place p.start) ≡ p.start - place = slice_length text place p.start low inside in
    let two : length (replaced_from text place (drop i parts)) ≡ length (slice_range text place p.start ++ p.new ++ replaced_from text p.end (drop (i + 1) parts)) =
    ap (λ (bytes : Bytes). length bytes) (unrolled text parts i place p lt is) in
    let three : length ((slice_range text place p.start ++ p.new) ++ replaced_from text p.end (drop (i + 1) parts)) ≡ length (slice_range text place p.start ++ p.new) + length (replaced_from text p.end (drop (i + 1) parts)) =
    length-append (slice_range text place p.start ++ p.new) (replaced_from text p.end (drop (i + 1) parts)) in
    let four : length (slice_range text place p.start ++ p.new) ≡ length (slice_range text place p.start) + length p.new = length-append (slice_range text place p.start) p.new in
    let whole : size + length (replaced_from text place (drop i parts)) ≡ length (replaced_from text 0 parts) = s.is in
    record {
      at = goes_on text parts i place p within apart lt is s.at;
      is = omega arith;
      bound = omega arith;
    }

-- ---- whether the parts are in range

pub within_more : (text : Bytes) (parts : List Part) (i : ℕ) (p : Part) → i < length parts → p ≡ get_or parts i p
    → IsPartOf text p → All (IsPartOf text) (take i parts) → All (IsPartOf text) (take (i + 1) parts)
within_more text parts i p lt is part all =
    All-more (IsPartOf text) parts i p lt all (subst (λ (q : Part). IsPartOf text q) is part)

pub within_all : (text : Bytes) (parts : List Part) (i : ℕ) → length parts ≤ i → All (IsPartOf text) (take i parts) → All (IsPartOf text) parts
within_all text parts i ge all = subst (λ (ps : List Part). All (IsPartOf text) ps) (take_all i parts ge) all

-- the parts at two places
pub apart_more : (parts : List Part) (n : ℕ) (d e : Part) → 1 ≤ n → (get_or parts (n - 1) d).end < (get_or parts n e).start
    → AreApartTo parts n → AreApartTo parts (n + 1)
apart_more parts n d e some below all = λ k p q lt first second. by k p q first second (cases k lt)
  where
    cases : (k : ℕ) → suc k < n + 1 → (suc k < n) ⊎ (suc k ≡ n)
    cases k lt = ⊎_elim (λ less. inl less) (λ more. inr (omega arith)) (cases_lt (suc k) n)

    by : (k : ℕ) (p q : Part) → slice_get parts k ≡ Some p → slice_get parts (suc k) ≡ Some q → (suc k < n) ⊎ (suc k ≡ n) → p.end < q.start
    by k p q first second (inl less) = all k p q less first second
    by k p q first second (inr same) =
        let before : k ≡ n - 1 = omega arith in
        let one : get_or parts (n - 1) d ≡ p = ap (λ (m : ℕ). get_or parts m d) (sym before) ∙ get_or_from_slice_get parts k p d first in
        let two : get_or parts n e ≡ q = ap (λ (m : ℕ). get_or parts m e) (sym same) ∙ get_or_from_slice_get parts (suc k) q e second in
        subst (λ (x : Part). x.end < q.start) one (subst (λ (y : Part). (get_or parts (n - 1) d).end < y.start) two below)

pub apart_all : (parts : List Part) (n : ℕ) → length parts ≤ n → AreApartTo parts n → AreApart parts
apart_all parts n ge all = λ k p q first second. all k p q (let lt = slice_get_within parts (suc k) q second in omega arith) first second

pub not_apart : (parts : List Part) (n : ℕ) (d e : Part) → 1 ≤ n → n < length parts
    → (get_or parts n e).start ≤ (get_or parts (n - 1) d).end → AreApart parts → ⊥
not_apart parts n d e some lt above all =
    let first : slice_get parts (n - 1) ≡ Some (get_or parts (n - 1) d) = slice_get-get_or parts (n - 1) d (omega arith) in
    let next : suc (n - 1) ≡ n = omega arith in
    let second : slice_get parts (suc (n - 1)) ≡ Some (get_or parts n e) = ap (λ (m : ℕ). slice_get parts m) next ∙ slice_get-get_or parts n e lt in
    let below : (get_or parts (n - 1) d).end < (get_or parts n e).start = all (n - 1) (get_or parts (n - 1) d) (get_or parts n e) first second in
    omega arith

-- ---- the bytes

-- what has been written, once a part's two pieces are behind it
written : (text : Bytes) (parts : List Part) (i place : ℕ) (p : Part) (before kept fresh one two all : Bytes) → i < length parts → p ≡ get_or parts i p
    → kept ≡ slice_range text place p.start → fresh ≡ p.new → one ≡ before ++ kept → two ≡ one ++ fresh
    → before ++ replaced_from text place (drop i parts) ≡ all
    → two ++ replaced_from text p.end (drop (i + 1) parts) ≡ all
written text parts i place p before kept fresh one two all lt is k f e g whole =
    ap (λ (bytes : Bytes). bytes ++ rest) g
    ∙ ap (λ (bytes : Bytes). (bytes ++ fresh) ++ rest) e
    ∙ append_assoc (before ++ kept) fresh rest
    ∙ append_assoc before kept (fresh ++ rest)
    ∙ ap (λ (bytes : Bytes). before ++ (bytes ++ (fresh ++ rest))) k
    ∙ ap (λ (bytes : Bytes). before ++ (slice_range text place p.start ++ (bytes ++ rest))) f
    ∙ ap (λ (bytes : Bytes). before ++ bytes) (sym (append_assoc (slice_range text place p.start) p.new rest) ∙ sym (unrolled text parts i place p lt is))
    ∙ whole
  where
    rest : Bytes
    rest = replaced_from text p.end (drop (i + 1) parts)

-- ---- the text that is written, one part after another

whole_size : (text : Bytes) (parts : List Part) (i place : ℕ) (p : Part) (before all : Bytes) → i < length parts → p ≡ get_or parts i p
    → before ++ replaced_from text place (drop i parts) ≡ all
    → length before + (length (slice_range text place p.start) + length p.new + length (replaced_from text p.end (drop (i + 1) parts))) ≡ length all
whole_size text parts i place p before all lt is whole =
    let rest = replaced_from text p.end (drop (i + 1) parts) in
    let one : length (before ++ replaced_from text place (drop i parts)) ≡ length all = ap (λ (bytes : Bytes). length bytes) whole in
    let two : length (replaced_from text place (drop i parts)) ≡ length (slice_range text place p.start ++ p.new ++ rest) =
    ap (λ (bytes : Bytes). length bytes) (unrolled text parts i place p lt is) in
    let three : length (slice_range text place p.start ++ p.new ++ rest) ≡ length (slice_range text place p.start ++ p.new) + length rest =
    length-append (slice_range text place p.start ++ p.new) rest in
    let four : length (slice_range text place p.start ++ p.new) ≡ length (slice_range text place p.start) + length p.new =
    length-append (slice_range text place p.start) p.new in
    let five : length (before ++ replaced_from text place (drop i parts)) ≡ length before + length (replaced_from text place (drop i parts)) =
    length-append before (replaced_from text place (drop i parts)) in
    omega arith

pub rewritten_start : (text : Bytes) (parts : List Part) (now : Bytes) → IsText text → now ≡ [] → IsRewritten text parts 0 0 now
rewritten_start text parts now is none_there = record {
  at = begins text parts is;
  bytes = ap (λ (bytes : Bytes). bytes ++ replaced_from text 0 parts) none_there;
}

pub kept_ordered : (text : Bytes) (parts : List Part) (i place : ℕ) (p : Part) (now : Bytes) → All (IsPartOf text) parts
    → i < length parts → p ≡ get_or parts i p → IsRewritten text parts i place now → place ≤ p.start
kept_ordered text parts i place p now within lt is so = (is_ready text parts i place p within lt is so.at).ordered

pub kept_from : (text : Bytes) (parts : List Part) (i place : ℕ) (now : Bytes) → IsRewritten text parts i place now → IsCharBoundary text place
kept_from text parts i place now so = so.at.on

pub kept_to : (text : Bytes) (parts : List Part) (i : ℕ) (p : Part) → All (IsPartOf text) parts → i < length parts → p ≡ get_or parts i p → IsCharBoundary text p.start
kept_to text parts i p within lt is = (part_there text parts i p within lt is).start_on

pub kept_fits : (text : Bytes) (parts : List Part) (i place : ℕ) (p : Part) (now : Bytes) → All (IsPartOf text) parts
    → i < length parts → p ≡ get_or parts i p → IsRewritten text parts i place now → length (replaced_from text 0 parts) ≤ most_bytes
    → length now + (p.start - place) ≤ most_bytes
kept_fits text parts i place p now within lt is so fits =
    let low : place ≤ p.start = kept_ordered text parts i place p now within lt is so in
    let inside : p.start ≤ length text = (kept_to text parts i p within lt is).0 in
    let kept : length (slice_range text place p.start) ≡ p.start - place = slice_length text place p.start low inside in
    let sum = whole_size text parts i place p now (replaced_from text 0 parts) lt is so.bytes in
    omega (arith, sum)

pub new_from : (new : Bytes) → IsText new → IsCharBoundary new 0
new_from new is = IsCharBoundary-start new is.utf8

pub ends_on : (text : Bytes) (n : ℕ) → n ≡ length text → IsCharBoundary text n
ends_on text n is = subst (λ (m : ℕ). IsCharBoundary text m) (sym is) (IsCharBoundary-end text)

pub new_fits : (text : Bytes) (parts : List Part) (i place n : ℕ) (p : Part) (now one : Bytes) → i < length parts → p ≡ get_or parts i p
    → IsRewritten text parts i place now → one ≡ now ++ slice_range text place p.start → n ≡ length p.new
    → length (replaced_from text 0 parts) ≤ most_bytes → length one + (n - 0) ≤ most_bytes
new_fits text parts i place n p now one lt is so made count fits =
    let size : length one ≡ length now + length (slice_range text place p.start) =
    ap (λ (bytes : Bytes). length bytes) made ∙ length-append now (slice_range text place p.start) in
    let sum = whole_size text parts i place p now (replaced_from text 0 parts) lt is so.bytes in
    omega (arith, sum)

-- all of a part's new bytes
all_of : (bytes : Bytes) (n : ℕ) → n ≡ length bytes → slice_range bytes 0 n ≡ bytes
all_of bytes n is = take_all (n - 0) bytes (omega arith)

pub rewritten_more : (text : Bytes) (parts : List Part) (i place n : ℕ) (p : Part) (now one two : Bytes) → All (IsPartOf text) parts → AreApart parts
    → i < length parts → p ≡ get_or parts i p → IsRewritten text parts i place now
    → one ≡ now ++ slice_range text place p.start → n ≡ length p.new → two ≡ one ++ slice_range p.new 0 n
    → IsRewritten text parts (i + 1) p.end two
rewritten_more text parts i place n p now one two within apart lt is so made count after = record {
  at = goes_on text parts i place p within apart lt is so.at;
  bytes = written text parts i place p now (slice_range text place p.start) (slice_range p.new 0 n) one two (replaced_from text 0 parts) lt is refl (all_of p.new n count) made after so.bytes;
}

-- what is left behind the last part

pub last_from : (text : Bytes) (parts : List Part) (i place : ℕ) (now : Bytes) → IsRewritten text parts i place now → IsCharBoundary text place
last_from text parts i place now so = so.at.on

pub last_ordered : (text : Bytes) (parts : List Part) (i place n : ℕ) (now : Bytes) → IsRewritten text parts i place now → n ≡ length text → place ≤ n
last_ordered text parts i place n now so is =
    let within : place ≤ length text = so.at.on.0 in
    omega arith

pub last_fits : (text : Bytes) (parts : List Part) (i place n : ℕ) (now : Bytes) → IsRewritten text parts i place now → length parts ≤ i → n ≡ length text
    → length (replaced_from text 0 parts) ≤ most_bytes → length now + (n - place) ≤ most_bytes
last_fits text parts i place n now so ends is fits =
    let rest : length (replaced_from text place (drop i parts)) ≡ length (drop place text) =
    ap (λ (ps : List Part). length (replaced_from text place ps)) (drop_all i parts ends) in
    let size : length (now ++ replaced_from text place (drop i parts)) ≡ length (replaced_from text 0 parts) = ap (λ (bytes : Bytes). length bytes) so.bytes in
    omega (arith, length-append now (replaced_from text place (drop i parts)), length-drop place text)

pub rewritten_end : (text : Bytes) (parts : List Part) (i place n : ℕ) (now one : Bytes) → IsRewritten text parts i place now → length parts ≤ i → n ≡ length text
    → one ≡ now ++ slice_range text place n → one ≡ replaced_from text 0 parts
rewritten_end text parts i place n now one so ends is made =
    made
    ∙ ap (λ (m : ℕ). now ++ slice_range text place m) is
    ∙ ap (λ (bytes : Bytes). now ++ bytes) (take_rest text place)
    ∙ ap (λ (ps : List Part). now ++ replaced_from text place ps) (sym (drop_all i parts ends))
    ∙ so.bytes

pub rewritten_small : (text : Bytes) (parts : List Part) (i place n : ℕ) (now one : Bytes) → IsRewritten text parts i place now → length parts ≤ i → n ≡ length text
    → one ≡ now ++ slice_range text place n → length (replaced_from text 0 parts) ≤ most_bytes → length one ≤ most_bytes
rewritten_small text parts i place n now one so ends is made fits =
    subst (λ (bytes : Bytes). length bytes ≤ most_bytes) (sym (rewritten_end text parts i place n now one so ends is made)) fits
