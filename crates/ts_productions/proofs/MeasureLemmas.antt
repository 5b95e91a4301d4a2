-- The measure of a rule tree from those of its inner trees.
use Rattle.std.proofs.Common.{◌≡◌, ◌∙◌, sym, ap, refl, subst, arith, ℕ, zero, suc, ◌+◌, ◌*◌, ◌<◌, ◌≤◌, min, max, ⊎_elim, Bool, true, false, if◌then◌else◌, List, [], ◌∷◌, map, ◌++◌, length, get_or, take, drop}
use Rattle.std.proofs.lemmas.List.{drop_all, drop_more, take_more}
use Rattle.std.proofs.lemmas.Bool.{cases_lt}
use Rattle.std.proofs.Math.Nat.{mul_assoc, le-mul_of_pos_right}
use Rattle.ts_core.specs.declared.flat.Assoc.{Assoc}
use Rattle.ts_core.specs.declared.flat.Prec.{Prec}
use Rattle.ts_rules.specs.declared.tree.Around.{Around}
use Rattle.ts_rules.specs.declared.tree.NumberedStep.{NumberedStep}
use Rattle.ts_rules.specs.declared.tree.Tree.{Tree}
use Rattle.ts_rules.specs.declared.tree.Tree.TheVariants.{Step, Seq, Choice, Group}
use Rattle.ts_rules.specs.Alternatives.{Alternatives, alternatives_of, sequence, alternatives_each, choice_of, is_last, in_sequence, in_group, left, single, joins}
use Rattle.ts_productions.specs.declared.weights.Weights.{Weights}
use Rattle.ts_productions.specs.declared.measure.Measure.{Measure}
use Rattle.ts_productions.specs.Sizes.{many_of, longest_by, weigh, total, blanks, heavy, reach, reach_together, IsMeasure, IsJoined, IsSmallMeasure}
use Rattle.ts_productions.proofs.AlikeLemmas.{Alike, alike_cap, alike_times, alike_plus}
use Rattle.ts_productions.proofs.SizeLemmas.{weigh_append, total_joins, total_apart, blanks_append, blanks_joins, blanks_left, heavy_append, heavy_joins, heavy_left, reach_append, reach_none, reach_sequence, reach_left, times_none, none_times}
use Rattle.ts_productions.proofs.TreeLemmas.{alternatives_step, alternatives_seq, alternatives_choice, alternatives_group, next_of}

pub measured_step : (w : Weights) (tree : Tree) (symbol : ℕ) (m : Measure) (around : Around) → tree ≡ Step symbol → IsMeasure w (single symbol around ∷ []) m → IsMeasure w (alternatives_of tree around) m
measured_step w tree symbol m around e is = subst (λ (xs : Alternatives). IsMeasure w xs m) (sym (ap (λ (t : Tree). alternatives_of t around) e ∙ alternatives_step symbol around)) is

pub measured_choice : (w : Weights) (tree : Tree) (inner : List Tree) (m : Measure) (around : Around) → tree ≡ Choice inner → IsMeasure w (choice_of inner around) m → IsMeasure w (alternatives_of tree around) m
measured_choice w tree inner m around e is = subst (λ (xs : Alternatives). IsMeasure w xs m) (sym (ap (λ (t : Tree). alternatives_of t around) e ∙ alternatives_choice inner around)) is

group_measure : (w : Weights) (around : Around) (xs : Alternatives) (m : Measure) (b : Bool) → IsMeasure w xs m → IsMeasure w (if b then xs else map (left around) xs) m
group_measure w around xs m true is = is
group_measure w around xs m false is = record {
  blank = is.blank ∙ ap (min 65536) (sym (blanks_left around xs));
  filled = is.filled ∙ ap (min 65536) (sym (heavy_left (many_of w) around xs));
  longest = is.longest ∙ ap (min 256) (sym (reach_left (many_of w) (longest_by w) around xs));
}

pub measured_group : (w : Weights) (tree : Tree) (prec : Prec) (assoc : Assoc) (inner : Tree) (m : Measure) (around : Around) → tree ≡ Group prec assoc inner
    → ((a : Around) → IsMeasure w (alternatives_of inner a) m) → IsMeasure w (alternatives_of tree around) m
measured_group w tree prec assoc inner m around e is =
    subst (λ (xs : Alternatives). IsMeasure w xs m) (sym (ap (λ (t : Tree). alternatives_of t around) e ∙ alternatives_group prec assoc inner around))
    (group_measure w around (alternatives_of inner (in_group prec assoc around)) m around.at_end (is (in_group prec assoc around)))

joined_measure : (w : Weights) (parts : List Alternatives) (j m : Measure) → IsJoined w parts j → m.blank ≡ j.blank → m.filled ≡ j.filled
    → (j.blank + j.filled ≡ 0 → m.longest ≡ 0) → (1 ≤ j.blank + j.filled → m.longest ≡ j.longest) → IsMeasure w (sequence parts) m
joined_measure w parts j m is blank filled none some = record {
  blank = blank ∙ is.blank;
  filled = filled ∙ is.filled;
  longest = ⊎_elim nothing something (cases_lt 0 (j.blank + j.filled));
}
  where
    apart : total (many_of w) (sequence parts) ≡ blanks (sequence parts) + heavy (many_of w) (sequence parts)
    apart = total_apart (many_of w) (sequence parts)

    nothing : 0 < j.blank + j.filled → m.longest ≡ min 256 (reach (many_of w) (longest_by w) (sequence parts))
    nothing h =
        let there : 1 ≤ total (many_of w) (sequence parts) = omega (arith, apart, is.blank, is.filled, h) in
        some (omega arith) ∙ is.longest ∙ ap (min 256) (sym (reach_sequence (many_of w) (longest_by w) parts there))

    something : j.blank + j.filled ≤ 0 → m.longest ≡ min 256 (reach (many_of w) (longest_by w) (sequence parts))
    something h =
        let gone : total (many_of w) (sequence parts) ≡ 0 = omega (arith, apart, is.blank, is.filled, h) in
        let short : reach (many_of w) (longest_by w) (sequence parts) ≡ 0 = reach_none (many_of w) (longest_by w) (sequence parts) gone in
        let e : m.longest ≡ 0 = none (omega arith) in
        omega (arith, e, short)

pub measured_seq : (w : Weights) (tree : Tree) (inner : List Tree) (j m : Measure) (around : Around) → tree ≡ Seq inner → IsJoined w (alternatives_each inner around) j → m.blank ≡ j.blank → m.filled ≡ j.filled
    → (j.blank + j.filled ≡ 0 → m.longest ≡ 0) → (1 ≤ j.blank + j.filled → m.longest ≡ j.longest) → IsMeasure w (alternatives_of tree around) m
measured_seq w tree inner j m around e is blank filled none some =
    subst (λ (xs : Alternatives). IsMeasure w xs m) (sym (ap (λ (t : Tree). alternatives_of t around) e ∙ alternatives_seq inner around))
    (joined_measure w (alternatives_each inner around) j m is blank filled none some)

-- ---- members

-- what is joined so far, and what is left
pub record Joining (w : Weights) (acc : Measure) (parts rest : List Alternatives) : Type 0 where
  pub blank : Alike 65536 (acc.blank * blanks (sequence rest)) (blanks (sequence parts))
  pub filled : Alike 65536 (acc.filled * total (many_of w) (sequence rest) + acc.blank * heavy (many_of w) (sequence rest)) (heavy (many_of w) (sequence parts))
  pub longest : min 256 (acc.longest + reach_together (many_of w) (longest_by w) rest) ≡ min 256 (reach_together (many_of w) (longest_by w) parts)

pub joining_begins : (w : Weights) (acc : Measure) (parts : List Alternatives) → acc.blank ≡ 1 → acc.filled ≡ 0 → acc.longest ≡ 0 → Joining w acc parts parts
joining_begins w acc parts one none short = record {
  blank = ap (λ (n : ℕ). min 65536 (n * blanks (sequence parts))) one ∙ ap (min 65536) (grind arith);
  filled =
      ap (λ (n : ℕ). min 65536 (n * total (many_of w) (sequence parts) + acc.blank * heavy (many_of w) (sequence parts))) none
      ∙ ap (λ (n : ℕ). min 65536 (0 * total (many_of w) (sequence parts) + n * heavy (many_of w) (sequence parts))) one
      ∙ ap (min 65536) (grind arith);
  longest = omega arith;
}

distribute : (f b t h t2 h2 b2 : ℕ) → (f * t + b * h) * t2 + (b * b2) * h2 ≡ f * (t * t2) + b * (h * t2 + b2 * h2)
distribute f b t h t2 h2 b2 = grind arith

joining_more : (w : Weights) (acc m new : Measure) (parts rest : List Alternatives) (xs : Alternatives) → Joining w acc parts (xs ∷ rest) → IsMeasure w xs m
    → new.blank ≡ min 65536 (acc.blank * m.blank) → new.filled ≡ min 65536 (acc.filled * (m.blank + m.filled) + acc.blank * m.filled) → new.longest ≡ min 256 (acc.longest + m.longest)
    → Joining w new parts rest
joining_more w acc m new parts rest xs before is blank filled longest = record {
  blank =
      alike_times 65536 new.blank (acc.blank * blanks xs) Br Br new_blank refl
      ∙ ap (min 65536) (mul_assoc acc.blank (blanks xs) Br ∙ ap (λ (n : ℕ). acc.blank * n) (sym (blanks_joins xs (sequence rest))))
      ∙ before.blank;
  filled =
      alike_plus 65536 (new.filled * Tr) ((acc.filled * total (many_of w) xs + acc.blank * heavy (many_of w) xs) * Tr) (new.blank * Hr) ((acc.blank * blanks xs) * Hr)
      (alike_times 65536 new.filled (acc.filled * total (many_of w) xs + acc.blank * heavy (many_of w) xs) Tr Tr new_filled refl)
      (alike_times 65536 new.blank (acc.blank * blanks xs) Hr Hr new_blank refl)
      ∙ ap (min 65536) (distribute acc.filled acc.blank (total (many_of w) xs) (heavy (many_of w) xs) Tr Hr (blanks xs))
      ∙ ap (λ (n : ℕ). min 65536 (acc.filled * n + acc.blank * (heavy (many_of w) xs * Tr + blanks xs * Hr))) (sym (total_joins (many_of w) xs (sequence rest)))
      ∙ ap (λ (n : ℕ). min 65536 (acc.filled * total (many_of w) (joins xs (sequence rest)) + acc.blank * n)) (sym (heavy_joins (many_of w) xs (sequence rest)))
      ∙ before.filled;
  longest = let b = before.longest in let l = is.longest in omega (arith, b, l, longest);
}
  where
    Br : ℕ
    Br = blanks (sequence rest)

    Tr : ℕ
    Tr = total (many_of w) (sequence rest)

    Hr : ℕ
    Hr = heavy (many_of w) (sequence rest)

    new_blank : Alike 65536 new.blank (acc.blank * blanks xs)
    new_blank =
        ap (min 65536) blank ∙ alike_cap 65536 (acc.blank * m.blank)
        ∙ alike_times 65536 acc.blank acc.blank m.blank (blanks xs) refl (ap (min 65536) is.blank ∙ alike_cap 65536 (blanks xs))

    sum_alike : Alike 65536 (m.blank + m.filled) (total (many_of w) xs)
    sum_alike =
        alike_plus 65536 m.blank (blanks xs) m.filled (heavy (many_of w) xs) (ap (min 65536) is.blank ∙ alike_cap 65536 (blanks xs)) (ap (min 65536) is.filled ∙ alike_cap 65536 (heavy (many_of w) xs))
        ∙ ap (min 65536) (sym (total_apart (many_of w) xs))

    new_filled : Alike 65536 new.filled (acc.filled * total (many_of w) xs + acc.blank * heavy (many_of w) xs)
    new_filled =
        ap (min 65536) filled ∙ alike_cap 65536 (acc.filled * (m.blank + m.filled) + acc.blank * m.filled)
        ∙ alike_plus 65536 (acc.filled * (m.blank + m.filled)) (acc.filled * total (many_of w) xs) (acc.blank * m.filled) (acc.blank * heavy (many_of w) xs)
        (alike_times 65536 acc.filled acc.filled (m.blank + m.filled) (total (many_of w) xs) refl sum_alike)
        (alike_times 65536 acc.blank acc.blank m.filled (heavy (many_of w) xs) refl (ap (min 65536) is.filled ∙ alike_cap 65536 (heavy (many_of w) xs)))

pub joining_member : (w : Weights) (inner : List Tree) (i : ℕ) (tree : Tree) (acc m new : Measure) (around : Around) → i < length inner → tree ≡ get_or inner i tree
    → ((a : Around) → IsMeasure w (alternatives_of tree a) m) → Joining w acc (alternatives_each inner around) (alternatives_each (drop i inner) around)
    → new.blank ≡ min 65536 (acc.blank * m.blank) → new.filled ≡ min 65536 (acc.filled * (m.blank + m.filled) + acc.blank * m.filled) → new.longest ≡ min 256 (acc.longest + m.longest)
    → Joining w new (alternatives_each inner around) (alternatives_each (drop (i + 1) inner) around)
joining_member w inner i tree acc m new around lt at is before blank filled longest =
    joining_more w acc m new (alternatives_each inner around) (alternatives_each (drop (i + 1) inner) around) (alternatives_of tree (in_sequence (is_last (drop (i + 1) inner)) around))
    (subst (λ (ts : List Tree). Joining w acc (alternatives_each inner around) (alternatives_each ts around)) (next_of inner i tree lt at) before)
    (is (in_sequence (is_last (drop (i + 1) inner)) around)) blank filled longest

pub joining_ends : (w : Weights) (inner : List Tree) (i : ℕ) (acc : Measure) (around : Around) → length inner ≤ i → IsSmallMeasure acc
    → Joining w acc (alternatives_each inner around) (alternatives_each (drop i inner) around) → IsJoined w (alternatives_each inner around) acc
joining_ends w inner i acc around past small before =
    let done : Joining w acc (alternatives_each inner around) [] = subst (λ (ts : List Tree). Joining w acc (alternatives_each inner around) (alternatives_each ts around)) (drop_all i inner past) before in
    let f : acc.filled * 1 + acc.blank * 0 ≡ acc.filled = grind arith in
    let b : acc.blank * 1 ≡ acc.blank = grind arith in
    record {
      blank = let e = done.blank in omega (arith, e, b, small);
      filled = let e = done.filled in omega (arith, e, f, small);
      longest = let e = done.longest in omega (arith, e, small);
    }

-- ---- branches

pub record Choosing (w : Weights) (acc : Measure) (all rest : Alternatives) : Type 0 where
  pub blank : min 65536 (acc.blank + blanks rest) ≡ min 65536 (blanks all)
  pub filled : min 65536 (acc.filled + heavy (many_of w) rest) ≡ min 65536 (heavy (many_of w) all)
  pub longest : min 256 (max acc.longest (reach (many_of w) (longest_by w) rest)) ≡ min 256 (reach (many_of w) (longest_by w) all)

pub choosing_begins : (w : Weights) (acc : Measure) (all : Alternatives) → acc.blank ≡ 0 → acc.filled ≡ 0 → acc.longest ≡ 0 → Choosing w acc all all
choosing_begins w acc all blank filled longest = record { blank = omega arith; filled = omega arith; longest = omega arith }

choosing_more : (w : Weights) (acc m new : Measure) (all rest xs : Alternatives) → Choosing w acc all (xs ++ rest) → IsMeasure w xs m
    → new.blank ≡ min 65536 (acc.blank + m.blank) → new.filled ≡ min 65536 (acc.filled + m.filled) → new.longest ≡ max acc.longest m.longest
    → Choosing w new all rest
choosing_more w acc m new all rest xs before is blank filled longest = record {
  blank = let e = before.blank in let a = blanks_append xs rest in let b = is.blank in omega (arith, e, a, b, blank);
  filled = let e = before.filled in let a = heavy_append (many_of w) xs rest in let b = is.filled in omega (arith, e, a, b, filled);
  longest = let e = before.longest in let a = reach_append (many_of w) (longest_by w) xs rest in let b = is.longest in omega (arith, e, a, b, longest);
}

pub choosing_branch : (w : Weights) (inner : List Tree) (i : ℕ) (tree : Tree) (acc m new : Measure) (around : Around) → i < length inner → tree ≡ get_or inner i tree
    → ((a : Around) → IsMeasure w (alternatives_of tree a) m) → Choosing w acc (choice_of inner around) (choice_of (drop i inner) around)
    → new.blank ≡ min 65536 (acc.blank + m.blank) → new.filled ≡ min 65536 (acc.filled + m.filled) → new.longest ≡ max acc.longest m.longest
    → Choosing w new (choice_of inner around) (choice_of (drop (i + 1) inner) around)
choosing_branch w inner i tree acc m new around lt at is before blank filled longest =
    choosing_more w acc m new (choice_of inner around) (choice_of (drop (i + 1) inner) around) (alternatives_of tree around)
    (subst (λ (ts : List Tree). Choosing w acc (choice_of inner around) (choice_of ts around)) (next_of inner i tree lt at) before) (is around) blank filled longest

pub choosing_ends : (w : Weights) (inner : List Tree) (i : ℕ) (acc : Measure) (around : Around) → length inner ≤ i → IsSmallMeasure acc
    → Choosing w acc (choice_of inner around) (choice_of (drop i inner) around) → IsMeasure w (choice_of inner around) acc
choosing_ends w inner i acc around past small before =
    let done : Choosing w acc (choice_of inner around) [] = subst (λ (ts : List Tree). Choosing w acc (choice_of inner around) (choice_of ts around)) (drop_all i inner past) before in
    record {
      blank = let e = done.blank in omega (arith, e, small);
      filled = let e = done.filled in omega (arith, e, small);
      longest = let e = done.longest in omega (arith, e, small);
    }

-- ---- steps that have expansions

pub some_more : (W : ℕ → ℕ) (steps : List NumberedStep) (i : ℕ) (d : NumberedStep) (n : ℕ) → i < length steps → n ≡ W (get_or steps i d).symbol → (n ≡ 0 → ⊥) → 1 ≤ weigh W (take i steps) → 1 ≤ weigh W (take (i + 1) steps)
some_more W steps i d n lt at there before =
    let e : weigh W (take (i + 1) steps) ≡ weigh W (take i steps) * weigh W (get_or steps i d ∷ []) =
    ap (weigh W) (take_more steps i d lt) ∙ weigh_append W (take i steps) (get_or steps i d ∷ []) in
    let f : weigh W (get_or steps i d ∷ []) ≡ W (get_or steps i d).symbol = grind arith in
    let g : 0 < n = pos n there in
    let h : weigh W (take i steps) ≤ weigh W (take i steps) * weigh W (get_or steps i d ∷ []) = le-mul_of_pos_right (weigh W (take i steps)) (omega (arith, f, g, at)) in
    omega (arith, e, h, before)
  where
    pos : (n : ℕ) → (n ≡ 0 → ⊥) → 0 < n
    pos zero h = absurd (h refl)
    pos (suc n) h = omega arith

pub void_at : (W : ℕ → ℕ) (steps : List NumberedStep) (i : ℕ) (d : NumberedStep) (n : ℕ) → i < length steps → n ≡ W (get_or steps i d).symbol → n ≡ 0 → weigh W steps ≡ 0
void_at W steps i d n lt at none =
    ap (weigh W) (sym (take_drop steps i) ∙ ap (λ (ys : List NumberedStep). take i steps ++ ys) (drop_more steps i d lt))
    ∙ weigh_append W (take i steps) (get_or steps i d ∷ drop (i + 1) steps)
    ∙ ap (λ (n : ℕ). weigh W (take i steps) * (n * weigh W (drop (i + 1) steps))) (sym at ∙ none)
    ∙ ap (λ (n : ℕ). weigh W (take i steps) * n) (none_times (weigh W (drop (i + 1) steps)))
    ∙ times_none (weigh W (take i steps))
  where
    take_drop : (xs : List NumberedStep) (n : ℕ) → take n xs ++ drop n xs ≡ xs
    take_drop [] zero = refl
    take_drop [] (suc n) = refl
    take_drop (y ∷ xs) zero = refl
    take_drop (y ∷ xs) (suc n) = ap (λ (zs : List NumberedStep). y ∷ zs) (take_drop xs n)
