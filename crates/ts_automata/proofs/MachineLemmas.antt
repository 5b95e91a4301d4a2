-- Reading the tables of a machine.
use Rattle.std.proofs.Common.{◌≡◌, ◌∙◌, ap, refl, ℕ, ◌^◌, ◌<◌, List, [], ◌∷◌, ◌++◌, length, get_or, slice_get, Some, arith}
use Rattle.std.specs.Global.{Vec}
use Rattle.std.specs.Option.{option_map}
use Rattle.std.proofs.lemmas.List.{length-map}
use Rattle.std.proofs.lemmas.Option.{slice_get_within, slice_get-map, slice_get_read, slice_get-get_or}
use Rattle.ts_automata.specs.declared.node.Node.{Node}
use Rattle.ts_automata.specs.declared.tables.SetTables.{SetTables}
use Rattle.ts_automata.specs.Sets.{IsNextSet, IsRow, IsFirst, IsSubset, sets_of, rows_of}
use Rattle.ts_automata.specs.Classes.{IsClassOf}
use Rattle.ts_automata.specs.Machine.{IsMachine, HasRead, state_count}
use Rattle.ts_automata.proofs.CutLemmas.{cut_alike}
use Rattle.ts_automata.proofs.AfterLemmas.{after_none, after_more}

pub set_count : (vs : List (Vec ℕ)) → length (sets_of vs) ≡ length vs
set_count vs = length-map vs (λ (v : Vec ℕ). v.items)

pub first_is : (T : List Node) (entries bounds begins : List ℕ) (kernels sets table : List (List ℕ)) (first : ℕ) → kernels ≡ entries ∷ [] → first ≡ get_or begins 0 first
    → IsSubset T kernels bounds begins sets table → IsFirst T sets entries first
first_is T entries bounds begins kernels sets table first one is x =
    let size : length kernels ≡ 1 = ap (λ (l : List (List ℕ)). length l) one in
    let many = x.each in
    x.first 0 first (slice_get_read begins (length begins) 0 first refl (omega arith) is) entries (ap (λ (l : List (List ℕ)). slice_get l 0) one)

module _ (m : SetTables) (x : IsMachine m) where
  pub first_within : m.first < state_count m
  first_within = let w = slice_get_within (sets_of m.sets.keys) m.first x.first.set x.first.at in let e = set_count m.sets.keys in omega arith

  pub first_stands : HasRead m [] m.first
  first_stands = after_none m.automaton.nodes.items m.automaton.entries.items (sets_of m.sets.keys) m.first x.first

  pub in_rows : (n : ℕ) → n < state_count m → n < length m.rows.items
  in_rows n lt = let a = x.row_count in let b = set_count m.sets.keys in let c = set_count m.rows.items in omega arith

  set_there : (n : ℕ) → n < state_count m → slice_get (sets_of m.sets.keys) n ≡ Some (get_or (sets_of m.sets.keys) n [])
  set_there n lt = slice_get-get_or (sets_of m.sets.keys) n [] (let e = set_count m.sets.keys in omega arith)

  row_is : (n : ℕ) (row : Vec ℕ) → n < state_count m → row ≡ get_or m.rows.items n row → slice_get (rows_of m.rows.items) n ≡ Some row.items
  row_is n row lt is = slice_get-map (λ (v : Vec ℕ). v.items) m.rows.items n ∙ ap (option_map (λ (v : Vec ℕ). v.items)) (slice_get_read m.rows.items (length m.rows.items) n row refl (in_rows n lt) is)

  row_for : (n : ℕ) (row : Vec ℕ) (s : List ℕ) → n < state_count m → row ≡ get_or m.rows.items n row → slice_get (sets_of m.sets.keys) n ≡ Some s
      → IsRow m.automaton.nodes.items (sets_of m.sets.keys) s m.bounds.items row.items
  row_for n row s lt is at = x.rows n row.items (row_is n row lt is) s at

  pub in_row : (n : ℕ) (row : Vec ℕ) (c k : ℕ) → n < state_count m → row ≡ get_or m.rows.items n row → IsClassOf m.bounds.items c k → k < length row.items
  in_row n row c k lt is class =
      let r = row_for n row (get_or (sets_of m.sets.keys) n []) lt is (set_there n lt) in
      let w = slice_get_within m.bounds.items k class.bound class.at in
      let e = r.size in
      omega arith

  next_for : (n : ℕ) (row : Vec ℕ) (c k o : ℕ) (s : List ℕ) → n < state_count m → row ≡ get_or m.rows.items n row → (class : IsClassOf m.bounds.items c k) → o ≡ get_or row.items k o
      → slice_get (sets_of m.sets.keys) n ≡ Some s → IsNextSet m.automaton.nodes.items (sets_of m.sets.keys) s class.bound o
  next_for n row c k o s lt is class there at =
      (row_for n row s lt is at).next k o (slice_get_read row.items (length row.items) k o refl (in_row n row c k lt is class) there) class.bound class.at

  pub next_within : (n : ℕ) (row : Vec ℕ) (c k o : ℕ) → n < state_count m → row ≡ get_or m.rows.items n row → IsClassOf m.bounds.items c k → o ≡ get_or row.items k o → o < state_count m
  next_within n row c k o lt is class there =
      let r = next_for n row c k o (get_or (sets_of m.sets.keys) n []) lt is class there (set_there n lt) in
      let w = slice_get_within (sets_of m.sets.keys) o r.set r.at in
      let e = set_count m.sets.keys in
      omega arith

  pub next_stands : (n : ℕ) (row : Vec ℕ) (c k o : ℕ) → n < state_count m → row ≡ get_or m.rows.items n row → (class : IsClassOf m.bounds.items c k) → c < 2 ^ 32 → o ≡ get_or row.items k o
      → (w : List ℕ) → HasRead m w n → HasRead m (w ++ c ∷ []) o
  next_stands n row c k o lt is class fits there w before =
      after_more m.automaton.nodes.items m.automaton.entries.items (sets_of m.sets.keys) w n c class.bound o before
      (cut_alike m.automaton.nodes.items m.bounds.items x.cut c k fits class)
      (next_for n row c k o before.set lt is class there before.at)
