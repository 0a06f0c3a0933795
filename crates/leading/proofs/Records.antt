-- Each written record on a reader that has nothing pending, and bytes one behind the other. Assumes nothing.
use Rattle.std.specs.Prelude.{Option, Some}
use Prim.Native.Nat.{ℕ, suc, ◌≤◌, ◌<◌}
use mathlib.Core.Path.{◌≡◌, refl, sym, ◌∙◌, ap}
use mathlib.Core.Bool.{Bool, true, false, not}
use mathlib.Core.List.{List, [], ◌∷◌, ◌++◌, append_assoc, append-nil, map}
use native.Mathlib.Omega.{arith}
use lib.ListN.{length, get_or, replicate, length-append}
use lib.IntN.{ℤ, pos, negsuc, ◌+ℤ◌}
use borrow.Author.Tests.{le-leb, lt-ltb}
use mir.Syntax.{w32}
use mir.Val.{SFits}
use Rattle.num.specs.Wrap.{wrap32}
use Rattle.varint.proofs.Writing.{canonical_le}
use Rattle.packer.specs.Texts.{no_zero}
use Rattle.packer.specs.declared.Part.{Part}
use Rattle.fields.specs.Fields.{int, dt, mask, str, args, Value, num, bytes, strings, on_num, mean}
use Rattle.fields.specs.Writing.{write_fields}
use Rattle.fields.specs.Forms.{AllSorted, all_writable}
use Rattle.fields.specs.Views.{ten_fields, numbers}
use Rattle.kinds.specs.Kinds.{has_ex}
use Rattle.kinds.specs.Magic.{same_bytes}
use Rattle.kinds.specs.declared.Version.{Version}
use Rattle.kinds.specs.declared.Version.TheVariants.{V2}
use Rattle.kinds.specs.declared.Kind.{Kind}
use Rattle.kinds.specs.declared.Kind.TheVariants as kinds
use Rattle.extensions.specs.Extensions.{extension_row, id_at, payload_at, has_client}
use Rattle.extensions.specs.declared.Extension.TheVariants.{PlayerTeam}
use Rattle.item.specs.Records.{content, fields, rest_of}
use Rattle.item.specs.Contents.{cid_of}
use Rattle.item.specs.declared.Tag.{Tag}
use Rattle.item.specs.declared.Tag.TheVariants.{Plain, Named}
use Rattle.written.specs.Written.{kind_bytes, write_content}
use Rattle.written.specs.Form.{kind_writable}
use Rattle.written.specs.Laws.{kind_numbers}
use Rattle.state.specs.State.{x_of, y_of, with_player, moved, with_input, reader_with}
use Rattle.state.specs.Reading.{raising, naming, skipping, next_tick, at_or_below}
use Rattle.state.specs.Acts.{wants_tick, MayCome}
use Rattle.state.specs.Acts as act
use Rattle.state.specs.declared.Entries.{Entries}
use Rattle.state.specs.declared.Scalars.{Scalars}
use Rattle.state.specs.declared.Reader.{Reader}
use Rattle.teams.specs.Teams.{Joining, joins, nobody, is_player_team, joining_in}
use Rattle.leading.specs.Leads.{Takes, there, takes, after_joining, after_joinings}
use Rattle.leading.specs.Records.{
  Ready,
  LeadsWith,
  Leaves,
  Rises,
  NewLeads,
  DiffLeads,
  OldLeads,
  InputLeads,
  CommandLeads,
  TeamLeads,
  SkipLeads,
  LeadsJoin,
}
use Rattle.leading.proofs.Found.{Form, fields_form, ex_form, Found, read_found, numbers_found, numbers_of}
use Rattle.leading.proofs.Takes.{Acts, taken, taken_sound, open_reader, leads_on}

-- ---- one behind the other

pub leads_join : LeadsJoin
leads_join r middle to a b i j there l = l
leads_join r middle to a b i j (takes {js = js} piece rest e t k) l =
    takes piece (rest ++ b) (ap (λ x. x ++ b) e ∙ append_assoc piece rest b) t (leads_join _ middle to rest b js j k l)

-- ---- players

client_fits : (c : ℕ) → c < 128 → SFits w32 (pos c)
client_fits c h = record { sfits = omega arith }

two_numbers : (v : Version) (k : Kind) (x y : ℤ) → rest_of k ≡ fields (int ∷ int ∷ []) [] → kind_numbers k → kind_writable k ≡ true → SFits w32 x
    → SFits w32 y → Form v k (Plain k) (num x ∷ num y ∷ [])
two_numbers v k x y e f o fx fy = fields_form v k (int ∷ int ∷ []) [] _ e f o (fx, (fy, tt)) refl

-- a player record by its act on scalars that let the client come
player_leads : (r : Reader) (c : ℕ) → Ready r → Rises r c → {k : Kind} {ms : List (Value (List ℕ))} (d : Entries) → Form r.scalars.version k (Plain k) ms
    → wants_tick k ≡ true
    → ((s : Scalars) → MayCome s (pos c) → (w : List ℕ) (last : Bool) (n : ℕ) → Found s w k (Plain k) ms n → Acts s r.entries w last n nobody (reader_with (naming (pos c) s) d))
    → Leaves r (write_content (content (Plain k) ms)) (Some (pos c)) d
unfolding naming
player_leads r c ready rises d form wants acts =
    leads_on r ready
    (record {
      form = form;
      wants = wants;
      turns = naming (pos c);
      behind = λ s p. record { tick = refl; inside = refl; remembered = refl; pending = refl; standing = refl };
      acts = λ s i p. acts s (record { inside = i; rises = ap (at_or_below (pos c)) p ∙ rises });
    })

pub new_leads : NewLeads
unfolding numbers
new_leads r c x y ready small rises fx fy absent =
    player_leads r c ready rises (with_player r.entries c 1 x y)
    (two_numbers r.scalars.version (kinds.PlayerNew (pos c)) x y refl (client_fits c small) refl fx fy) refl
    (λ s may w last n g.
    record {
      does = _;
      act = act.player_comes (numbers_found (x ∷ y ∷ []) g) may (lt-ltb c 128 small) absent;
      uses = refl;
      says = refl;
      leaves = refl;
    })

pub diff_leads : DiffLeads
unfolding numbers
diff_leads r c dx dy ready small rises fx fy is-there =
    player_leads r c ready rises
    (moved r.entries c (wrap32 (x_of r.entries c +ℤ dx)) (wrap32 (y_of r.entries c +ℤ dy)))
    (two_numbers r.scalars.version (kinds.PlayerDiff (pos c)) dx dy refl (client_fits c small) refl fx fy) refl
    (λ s may w last n g.
    record {
      does = _;
      act = act.player_moves (numbers_found (dx ∷ dy ∷ []) g) may is-there refl refl;
      uses = refl;
      says = refl;
      leaves = refl;
    })

pub old_leads : OldLeads
old_leads r c ready small rises is-there =
    player_leads r c ready rises (with_player r.entries c 0 (pos 0) (pos 0))
    (fields_form r.scalars.version (kinds.PlayerOld (pos c)) [] [] [] refl (client_fits c small) refl tt refl) refl
    (λ s may w last n g. record { does = _; act = act.player_leaves (numbers_found [] g) may is-there; uses = refl; says = refl; leaves = refl })

-- ---- records that leave the remembered client

-- by its act on scalars inside a tick; z is the record's client, j what it says of a team
raising_leads : (r : Reader) → Ready r → {k : Kind} {t : Tag} {ms : List (Value (List ℕ))} (z : ℤ) (j : Joining) (d : Entries)
    → Form r.scalars.version k t ms → wants_tick k ≡ true
    → ((s : Scalars) → s.inside ≡ true → (w : List ℕ) (last : Bool) (n : ℕ) → Found s w k t ms n → Acts s r.entries w last n j (reader_with (raising (Some z) s) d))
    → LeadsWith r (write_content (content t ms)) r.scalars.tick true r.scalars.remembered d (after_joining j)
unfolding raising
raising_leads r ready z j d form wants acts =
    leads_on r ready
    (record {
      form = form;
      wants = wants;
      turns = raising (Some z);
      behind = λ s p. record { tick = refl; inside = refl; remembered = p; pending = refl; standing = refl };
      acts = λ s i p. acts s i;
    })

ints_sorted : (zs : List ℤ) → ((k : ℕ) → SFits w32 (get_or zs k (pos 0))) → AllSorted (replicate (length zs) int) (map num zs)
ints_sorted [] h = tt
ints_sorted (z ∷ zs) h = (h 0, ints_sorted zs (λ k. h (suc k)))

ints_writable : (zs : List ℤ) → all_writable (replicate (length zs) int) (map num zs) ≡ true
ints_writable [] = refl
ints_writable (z ∷ zs) = ints_writable zs

pub input_leads : InputLeads
input_leads r c ns ready small ten fits =
    raising_leads r ready (pos c) nobody (with_input r.entries c 1 ns)
    (fields_form r.scalars.version kinds.InputNew (int ∷ []) ten_fields _ refl tt refl (client_fits c small, rw ten at (ints_sorted ns fits)) (rw ten at (ints_writable ns))) refl
    (λ s i w last n g.
    record {
      does = _;
      act = act.input_comes {c = c} (numbers_found (pos c ∷ ns) g) i (rw numbers_of) (lt-ltb c 128 small);
      uses = refl;
      says = refl;
      leaves = rw numbers_of;
    })

-- the first value, by its meaning
first_meant : (w : List ℕ) (vs : List (Value Part)) (z : ℤ) (ms : List (Value (List ℕ))) → map (mean w) vs ≡ num z ∷ ms
    → on_num (pos 0) (λ x. x) (get_or vs 0 (num (pos 0))) ≡ z
first_meant w [] z ms e = cc
first_meant w (num x ∷ vs) z ms e = cc
first_meant w (bytes p ∷ vs) z ms e = cc
first_meant w (strings ps ∷ vs) z ms e = cc

pub command_leads : CommandLeads
unfolding no_zero
command_leads r ready =
    raising_leads r ready (negsuc 0) nobody r.entries
    (fields_form r.scalars.version kinds.ConsoleCommand (int ∷ mask ∷ str ∷ []) (args ∷ []) _ refl tt refl (record { sfits = omega arith }, (omega arith, (tt, (tt, tt)))) refl) refl
    (λ s i w last n g.
    record {
      does = _;
      act = act.passes g.had (record { extension = false; sort = refl }) i;
      uses = refl;
      says = refl;
      leaves = ap (λ z. reader_with (raising (Some z) s) r.entries) (first_meant w g.values (negsuc 0) _ g.same);
    })

-- ---- a team

team_form : (v : Version) (c : ℕ) (n : ℤ) → v ≡ V2 → c < 128 → SFits w32 n → Form v kinds.Ex (Named PlayerTeam) (num (pos c) ∷ num n ∷ [])
unfolding payload_at extension_row
team_form v c n two small fits =
    let ms = num (pos c) ∷ num n ∷ [] in
    let load = write_fields (int ∷ int ∷ []) ms in
    let l : length load ≤ 10 = rw (length-append, length-append) (omega (arith, canonical_le (pos c), canonical_le n)) in
    ex_form v PlayerTeam (int ∷ int ∷ []) ms refl (client_fits c small, (fits, tt)) refl (le-leb (length load) 2147483647 (omega arith)) (ap has_ex two)

-- a PlayerTeam's client and team
team_joins : (c n : ℤ) → joining_in (content (Named PlayerTeam) (num c ∷ num n ∷ [])) ≡ joins c n
unfolding is_player_team same_bytes id_at extension_row numbers
team_joins c n = refl

team_client : (c n : ℤ) → cid_of (content (Named PlayerTeam) (num c ∷ num n ∷ [])) ≡ Some c
unfolding has_client extension_row
team_client c n = refl

pub team_leads : TeamLeads
team_leads r c n ready two small fits =
    raising_leads r ready (pos c) (joins (pos c) n) r.entries (team_form r.scalars.version c n two small fits) refl
    (λ s i w last k g.
    record {
      does = _;
      act = act.passes (numbers_found (pos c ∷ n ∷ []) g) (record { extension = true; sort = refl }) i;
      uses = refl;
      says = team_joins (pos c) n;
      leaves = ap (λ (z : Option ℤ). reader_with (raising z s) r.entries) (team_client (pos c) n);
    })

-- ---- a skip

skip_form : (v : Version) (n : ℕ) → n < 2147483648 → Form v kinds.TickSkip (Plain kinds.TickSkip) (num (pos n) ∷ [])
skip_form v n h =
    fields_form v kinds.TickSkip (dt ∷ []) [] _ refl tt refl (omega arith, tt) (rw (le-leb n 2147483647 (omega arith)))

module _ (r : Reader) (k : ℕ) (t : ℤ) (ready : Ready r) (fits : k < 2147483648) (next : next_tick r.scalars.tick k ≡ Some t) where
  abbrev skipped : Reader
  skipped = reader_with (skipping t (not r.scalars.inside) r.scalars) r.entries

  skip_acts : (b : Bool) → r.scalars.inside ≡ b → (w : List ℕ) (last : Bool) (n : ℕ)
      → Found r.scalars w kinds.TickSkip (Plain kinds.TickSkip) (num (pos k) ∷ []) n
      → Acts r.scalars r.entries w last n nobody skipped
  unfolding numbers
  skip_acts true i w last n g =
      record { does = _; act = act.skip_ends (numbers_found (pos k ∷ []) g) i next; uses = refl; says = refl; leaves = rw i }
  skip_acts false o w last n g =
      record { does = _; act = act.skip_starts (numbers_found (pos k ∷ []) g) o next; uses = refl; says = refl; leaves = rw o }

  abbrev form : Form r.scalars.version kinds.TickSkip (Plain kinds.TickSkip) (num (pos k) ∷ [])
  form = skip_form r.scalars.version k fits

  abbrev piece : List ℕ
  piece = kind_bytes kinds.TickSkip ++ form.values

  skip_taken : Takes r piece nobody skipped
  skip_taken =
      taken r (open_reader r ready) piece nobody skipped
      (λ behind last. skip_acts r.scalars.inside refl (piece ++ behind) last _ (read_found r.scalars form ready.free behind))

pub skip_leads : SkipLeads
unfolding skipping after_joinings
skip_leads r k t ready fits next =
    let x = skip_taken r k t ready fits next in
    record {
      to = skipped r k t ready fits next;
      says = nobody ∷ [];
      leads = takes _ [] ((skip_form r.scalars.version k fits).whole ∙ sym (append-nil _)) x there;
      joins = λ u. refl;
      ready = record { sound = taken_sound r (open_reader r ready) x; reads = ready.reads; free = refl };
      at = refl;
      within = refl;
      names = refl;
      holds = refl;
    }
