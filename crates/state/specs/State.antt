-- Reader and board: what they hold, the empty ones, which are good (refusal 17 for the others). docs/FORMAT.md, "Ticks and the board".
use Rattle.std.specs.Prelude.{ℕ, zero, suc, ◌+◌, ◌*◌, Bool, true, false, cond, ◌&&◌, List, [], ◌∷◌, map, get_or, set, replicate, ltb, eqb, ℤ, pos, negsuc, Option, Some, None}
use Rattle.std.specs.Int.Signed.{le_z, lt_z, non_neg}
use Rattle.kinds.specs.declared.Kind.{Kind}
use Rattle.fields.specs.Views.{zeros}
pub use Rattle.kinds.specs.Kinds.{has_ex}
use Rattle.kinds.specs.declared.Version.{Version}
use Rattle.state.specs.Sorts.{Sort, sort_of}
use Rattle.state.specs.Sorts as sorts
use Rattle.state.specs.declared.Entries.{Entries}
use Rattle.state.specs.declared.Memory.{Memory}
use Rattle.state.specs.declared.Standing.{Standing}
use Rattle.state.specs.declared.Standing.TheVariants.{Open}
use Rattle.state.specs.declared.Scalars.{Scalars}
use Rattle.state.specs.declared.Reader.{Reader}

-- ---- numbers

-- two numbers are the same
abbrev pub same_int : ℤ → ℤ → Bool
same_int (pos a) (pos b) = eqb a b
same_int (pos a) (negsuc b) = false
same_int (negsuc a) (pos b) = false
same_int (negsuc a) (negsuc b) = eqb a b

abbrev pub larger : ℤ → ℤ → ℤ
larger a b = cond (lt_z a b) b a

-- ---- entries: marks are 0 or 1; those of clients 0 to 127, ten input numbers each

abbrev pub entries_with : List ℕ → List ℤ → List ℤ → List ℕ → List ℤ → Entries
entries_with marks xs ys held inputs = record { marks = marks; xs = xs; ys = ys; held = held; inputs = inputs }

abbrev pub with_entries : Entries → Memory → Memory
with_entries e m = record { entries = e; input = m.input; former = m.former }

-- a client's player entry
abbrev pub present : Entries → ℕ → Bool
present e c = ltb c 128 && eqb (get_or e.marks c 0) 1

abbrev pub x_of : Entries → ℕ → ℤ
x_of e c = get_or e.xs c (pos 0)

abbrev pub y_of : Entries → ℕ → ℤ
y_of e c = get_or e.ys c (pos 0)

abbrev pub with_player : Entries → ℕ → ℕ → ℤ → ℤ → Entries
with_player e c mark x y =
    entries_with (set e.marks c mark) (set e.xs c x) (set e.ys c y) e.held e.inputs

-- the same entry at another position
abbrev pub moved : Entries → ℕ → ℤ → ℤ → Entries
moved e c x y = entries_with e.marks (set e.xs c x) (set e.ys c y) e.held e.inputs

-- a client's input entry
abbrev pub holds : Entries → ℕ → Bool
holds e c = ltb c 128 && eqb (get_or e.held c 0) 1

abbrev pub places : List ℕ
places = 0 ∷ 1 ∷ 2 ∷ 3 ∷ 4 ∷ 5 ∷ 6 ∷ 7 ∷ 8 ∷ 9 ∷ []

-- the ten numbers of a client among the 1280, and the 1280 with others in their place
unfoldable pub ten_of : List ℤ → ℕ → List ℤ
ten_of l c = map (λ k. get_or l (10 * c + k) (pos 0)) places

abbrev pub puts : List ℤ → ℕ → List ℤ → List ℕ → List ℤ
puts l c ns [] = l
puts l c ns (k ∷ ks) = puts (set l (10 * c + k) (get_or ns k (pos 0))) c ns ks

unfoldable pub put_ten : List ℤ → ℕ → List ℤ → List ℤ
put_ten l c ns = puts l c ns places

abbrev pub with_input : Entries → ℕ → ℕ → List ℤ → Entries
with_input e c mark ns = entries_with e.marks e.xs e.ys (set e.held c mark) (put_ten e.inputs c ns)

-- ---- good states

unfoldable pub every : ℕ → (ℕ → Bool) → Bool
every zero p = true
every (suc n) p = p n && every n p

-- a mark is 1, or it is 0 and its entry holds zeros
abbrev pub good_entry : ℕ → Bool → Bool
good_entry mark blank = cond (eqb mark 1) true (eqb mark 0 && blank)

abbrev pub zero_in : List ℤ → ℕ → Bool
zero_in l i = same_int (get_or l i (pos 0)) (pos 0)

unfoldable pub good_players : List ℕ → List ℤ → List ℤ → Bool
good_players marks xs ys = every 128 (λ c. good_entry (get_or marks c 0) (zero_in xs c && zero_in ys c))

unfoldable pub ten_zeros : List ℤ → ℕ → Bool
ten_zeros inputs c = every 10 (λ k. zero_in inputs (10 * c + k))

unfoldable pub good_inputs : List ℕ → List ℤ → Bool
good_inputs held inputs = every 128 (λ c. good_entry (get_or held c 0) (ten_zeros inputs c))

abbrev pub good_entries : Entries → Bool
good_entries e = good_players e.marks e.xs e.ys && good_inputs e.held e.inputs

-- no pending PlayerDiff of a negative client, no pending extension in version 1
abbrev pub good_sort : Version → Sort → Bool
good_sort v (sorts.player sorts.moves c) = non_neg c
good_sort v (sorts.player sorts.comes c) = true
good_sort v (sorts.player sorts.leaves c) = true
good_sort v (sorts.input new) = true
good_sort v sorts.skip = true
good_sort v sorts.finish = true
good_sort v (sorts.other ex) = cond ex (has_ex v) true

abbrev pub good_pending : Version → Option Kind → Bool
good_pending v None = true
good_pending v (Some k) = good_sort v (sort_of k)

unfoldable pub good_scalars : Scalars → Bool
good_scalars s =
    non_neg s.tick && (le_z (negsuc 0) s.largest && good_pending s.version s.pending)

abbrev pub reader_with : Scalars → Entries → Reader
reader_with s e = record { scalars = s; entries = e }

unfoldable pub good_reader : Reader → Bool
good_reader r = good_scalars r.scalars && good_entries r.entries

-- ---- the empty reader

unfoldable pub no_entries : Entries
no_entries = entries_with (replicate {A = ℕ} 128 0) (zeros 128) (zeros 128) (replicate {A = ℕ} 128 0) (zeros 1280)

-- all the scalars: version, tick, whether inside it, the remembered client, the largest client, the pending kind, whether it reads on
abbrev pub scalars_of : Version → ℤ → Bool → Option ℤ → ℤ → Option Kind → Standing → Scalars
scalars_of v t i p m k c =
    record { version = v; tick = t; inside = i; remembered = p; largest = m; pending = k; standing = c }

-- tick 0, outside a tick, no remembered client, largest client -1, no pending kind, open, nobody present
unfoldable pub empty_reader : Version → Reader
empty_reader v = reader_with (scalars_of v (pos 0) false None (negsuc 0) None Open) no_entries
