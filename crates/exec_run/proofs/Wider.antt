-- A run that stays within a memory is the same on a larger one.
use Rattle.std.proofs.Common.{◌≡◌, ℕ, Bool, true, false, Option, Some, None, ◌+◌, ◌/◌, ◌%◌, ◌^◌, List, length, zero, suc, refl, ap, sym, ◌∙◌, cond, subst}
use Rattle.std.specs.Prelude.{◌==◌, ◌&&◌, nat_le, nat_lt, option_map, IsSome}
use Rattle.std.specs.Bool.{MatchBool}
use Rattle.std.proofs.lemmas.Bool.{eqb-true}
use Rattle.rv_hart.specs.declared.hart.Hart.{Hart}
use Rattle.rv_hart.specs.declared.step.Cause.TheVariants.{Fetch, Illegal, Misaligned}
use Rattle.rv_hart.specs.declared.step.Step.{Step}
use Rattle.rv_hart.specs.declared.step.Step.TheVariants.{Next, Ecall as IsCall, Trap}
use Rattle.rv_hart.specs.Map.{Map, byte_of, read, stored, with_byte}
use Rattle.rv_hart.specs.Registers.{reg}
use Rattle.rv_hart.specs.Step.{Stepped, Turned, IsStep, misaligned, unmapped, fits, illegal, row_of, over, trapped, loads, loads_signed, stores, address}
use Rattle.rv_insn.specs.declared.insn.Insn.{Insn}
use Rattle.rv_insn.specs.declared.insn.Insn.TheVariants.{Lb, Lh, Lw, Ld, Lbu, Lhu, Lwu, Sb, Sh, Sw, Sd}
use Rattle.exec_run.specs.declared.host.TheConstants.{OUTPUT_MAX, STACK_START, STACK_END}
use Rattle.exec_run.specs.declared.ran.RunEnd.{RunEnd}
use Rattle.exec_run.specs.declared.ran.RunEnd.TheVariants.{Exited, OutOfFuel}
use Rattle.exec_run.specs.Bytes.{bytes_from, before}
use Rattle.exec_run.specs.Regions.{number_of}
use Rattle.exec_run.specs.Host.{State, Turn, goes, ends, wrote, write_call, called}
use Rattle.exec_run.specs.Larger.{IsWrite, NotUnmapped, IsWithin, Goes, StaysFrom, Agrees}
use Rattle.exec_run.specs.Run.{IsTurn, IsEnd, Continues, is_home, after, stepped, RunsFrom}
use Rattle.exec_run.specs.Start.{with_stack}
use Rattle.exec_run.proofs.Loads.{load_found}
use Rattle.exec_run.proofs.Spans.{bytes_begin, read-bytes}

-- what is mapped is read alike
byte_larger : (m n : Map) (at byte : ℕ) → Agrees m n → byte_of m at ≡ Some byte → byte_of n at ≡ Some byte
byte_larger m n at byte agree there =
    elim (nat_lt at (2 ^ 64)) as (λ b. cond b (m at) None ≡ Some byte → cond b (n at) None ≡ Some byte) [
      | true ↦ λ h. agree.same at byte h
      | false ↦ λ h. absurd cc
    ] there

pub bytes_larger : (m n : Map) (at count : ℕ) (bytes : List ℕ) → Agrees m n → bytes_from m at count ≡ Some bytes → bytes_from n at count ≡ Some bytes
unfolding bytes_from
bytes_larger m n at zero bytes agree there = there
bytes_larger m n at (suc count) bytes agree there =
    let b = bytes_begin m at count bytes there in
    ap (λ o. before o (bytes_from n (at + 1) count)) (byte_larger m n at b.byte agree b.byte_is)
    ∙ ap (before (Some b.byte)) (bytes_larger m n (at + 1) count b.others agree b.others_are)
    ∙ ap Some (sym b.all)

map_some : (o : Option (List ℕ)) (value : ℕ) → option_map number_of o ≡ Some value → (bytes : List ℕ) × (o ≡ Some bytes) × (number_of bytes ≡ value)
map_some (Some bytes) value h = (bytes, refl, cc)
map_some None value h = absurd cc

read_larger : (m n : Map) (at width value : ℕ) → Agrees m n → read m at width ≡ Some value → read n at width ≡ Some value
read_larger m n at width value agree there =
    let b = map_some (bytes_from m at width) value (sym (read-bytes m at width) ∙ there) in
    load_found n at width b.0 (bytes_larger m n at width b.0 agree b.1) ∙ ap Some b.2

-- what is stored is stored alike
byte_set : (m n : Map) (at byte : ℕ) → Agrees m n → Agrees (with_byte m at byte) (with_byte n at byte)
byte_set m n at byte agree = record {
  same = λ other b there.
      elim (other == at) as (λ t. cond t (Some byte) (m other) ≡ Some b → cond t (Some byte) (n other) ≡ Some b) [
        | true ↦ λ h. h
        | false ↦ λ h. agree.same other b h
      ] there;
}

stored_larger : (m n : Map) (at width value : ℕ) → Agrees m n → Agrees (stored m at width value) (stored n at width value)
unfolding stored
stored_larger m n at zero value agree = agree
stored_larger m n at (suc width) value agree = stored_larger (with_byte m at (value % 2 ^ 8)) (with_byte n at (value % 2 ^ 8)) (at + 1) width (value / 2 ^ 8) (byte_set m n at (value % 2 ^ 8) agree)

-- an answer that isn't for want of a mapped byte
abbrev pub IsFine : Step → Type 0
IsFine Next = Unit {0}
IsFine IsCall = Unit {0}
IsFine (Trap pc cause) = NotUnmapped cause

-- a step on a larger memory: the same hart and answer, and a memory that is larger again
pub record Wider (d e : Stepped) : Type 0 where
  pub map : Map
  pub is : e ≡ record d { map = map }
  pub agree : Agrees d.map map

-- the class of loads: what is done with what was read
load_wider : (f : Option ℕ → Turned) (m n : Map) (at width : ℕ) → (IsFine (f None).answer → ⊥) → Agrees m n → IsFine (f (read m at width)).answer → Wider (over m (f (read m at width))) (over n (f (read n at width)))
load_wider f m n at width bad agree fine = cases (read m at width) refl fine
  where
    cases : (o : Option ℕ) → read m at width ≡ o → IsFine (f o).answer → Wider (over m (f (read m at width))) (over n (f (read n at width)))
    cases (Some value) is fine = record {
      map = n;
      is = ap (λ o. over n (f o)) (read_larger m n at width value agree is ∙ sym is);
      agree = agree;
    }
    cases None is fine = absurd (bad fine)

-- the class of stores
store_wider : (hart : Hart) (m n : Map) (at width value : ℕ) → Agrees m n → IsFine (stores hart m at width value (read m at width)).answer → Wider (stores hart m at width value (read m at width)) (stores hart n at width value (read n at width))
store_wider hart m n at width value agree fine = cases (read m at width) refl fine
  where
    cases : (o : Option ℕ) → read m at width ≡ o → IsFine (stores hart m at width value o).answer → Wider (stores hart m at width value (read m at width)) (stores hart n at width value (read n at width))
    cases (Some was) is fine =
        subst (λ o. Wider (stores hart m at width value o) (stores hart n at width value (read n at width))) (sym is)
        (record {
          map = stored n at width value;
          is = ap (stores hart n at width value) (read_larger m n at width was agree is);
          agree = stored_larger m n at width value agree;
        })
    cases None is fine = absurd fine

row_wider : (insn : Insn) (hart : Hart) (m n : Map) → Agrees m n → IsFine (row_of insn hart m).answer → Wider (row_of insn hart m) (row_of insn hart n)
row_wider (Lb rd rs1 imm) hart m n agree fine = load_wider (loads_signed hart rd (address hart rs1 imm) 8) m n (address hart rs1 imm) 1 (λ h. h) agree fine
row_wider (Lh rd rs1 imm) hart m n agree fine = load_wider (loads_signed hart rd (address hart rs1 imm) 16) m n (address hart rs1 imm) 2 (λ h. h) agree fine
row_wider (Lw rd rs1 imm) hart m n agree fine = load_wider (loads_signed hart rd (address hart rs1 imm) 32) m n (address hart rs1 imm) 4 (λ h. h) agree fine
row_wider (Ld rd rs1 imm) hart m n agree fine = load_wider (loads hart rd (address hart rs1 imm)) m n (address hart rs1 imm) 8 (λ h. h) agree fine
row_wider (Lbu rd rs1 imm) hart m n agree fine = load_wider (loads hart rd (address hart rs1 imm)) m n (address hart rs1 imm) 1 (λ h. h) agree fine
row_wider (Lhu rd rs1 imm) hart m n agree fine = load_wider (loads hart rd (address hart rs1 imm)) m n (address hart rs1 imm) 2 (λ h. h) agree fine
row_wider (Lwu rd rs1 imm) hart m n agree fine = load_wider (loads hart rd (address hart rs1 imm)) m n (address hart rs1 imm) 4 (λ h. h) agree fine
row_wider (Sb rs1 rs2 imm) hart m n agree fine = store_wider hart m n (address hart rs1 imm) 1 (reg hart rs2) agree fine
row_wider (Sh rs1 rs2 imm) hart m n agree fine = store_wider hart m n (address hart rs1 imm) 2 (reg hart rs2) agree fine
row_wider (Sw rs1 rs2 imm) hart m n agree fine = store_wider hart m n (address hart rs1 imm) 4 (reg hart rs2) agree fine
row_wider (Sd rs1 rs2 imm) hart m n agree fine = store_wider hart m n (address hart rs1 imm) 8 (reg hart rs2) agree fine
row_wider _ hart m n agree fine = record { map = n; is = refl; agree = agree }

-- a step of the hart on a larger memory
pub record StepsWider (hart : Hart) (n : Map) (d : Stepped) : Type 0 where
  pub map : Map
  pub is_step : IsStep hart n (record d { map = map })
  pub agree : Agrees d.map map

wider_of : (hart : Hart) (n : Map) (d e : Stepped) → d ≡ e → (e' : Stepped) → IsStep hart n e' → Wider e e' → StepsWider hart n d
wider_of hart n d e same e' step w =
    subst (StepsWider hart n) (sym same) (record { map = w.map; is_step = subst (IsStep hart n) w.is step; agree = w.agree })

pub step_wider : (hart : Hart) (m n : Map) (d : Stepped) → Agrees m n → IsStep hart m d → IsFine d.answer → StepsWider hart n d
step_wider hart m n d agree (misaligned never x) fine =
    let t = trapped hart (Misaligned hart.pc) in
    wider_of hart n d (over m t) x (over n t) (misaligned never refl) (record { map = n; is = refl; agree = agree })
step_wider hart m n d agree (unmapped even none x) fine = absurd (subst (λ (q : Stepped). IsFine q.answer) x fine)
step_wider hart m n d agree (fits even word is insn fit x) fine =
    wider_of hart n d (row_of insn hart m) x (row_of insn hart n) (fits even word (read_larger m n hart.pc 4 word agree is) insn fit refl)
    (row_wider insn hart m n agree (subst (λ (q : Stepped). IsFine q.answer) x fine))
step_wider hart m n d agree (illegal even word is none x) fine =
    let t = trapped hart (Illegal word) in
    wider_of hart n d (over m t) x (over n t) (illegal even word (read_larger m n hart.pc 4 word agree is) none refl) (record { map = n; is = refl; agree = agree })

-- a state with another memory
abbrev pub widen : State → Map → State
widen s n = record s { map = n }

-- turns that leave a run alike
pub record LikeState (a b : State) : Type 0 where
  pub map : Map
  pub is : b ≡ widen a map
  pub agree : Agrees a.map map

abbrev pub LikeTurn : Turn → Turn → Type 0
LikeTurn (goes a) (goes b) = LikeState a b
LikeTurn (ends e) (ends f) = f ≡ e
LikeTurn (goes a) (ends f) = ⊥
LikeTurn (ends e) (goes b) = ⊥

like_if : (b : Bool) (x y x' y' : Turn) → (b ≡ true → LikeTurn x x') → (b ≡ false → LikeTurn y y') → LikeTurn (cond b x y) (cond b x' y')
like_if true x y x' y' p q = p refl
like_if false x y x' y' p q = q refl

some_is : {T : Type 0} (o : Option T) → IsSome o → (x : T) × (o ≡ Some x)
some_is (Some x) h = (x, refl)
some_is None h = absurd cc

wrote_wider : (s : State) (n : Map) (bytes : List ℕ) → Agrees s.map n → LikeTurn (wrote s (Some bytes)) (wrote (widen s n) (Some bytes))
wrote_wider s n bytes agree =
    like_if (nat_lt OUTPUT_MAX (length s.output + length bytes)) _ _ _ _ (λ _. refl) (λ _. record { map = n; is = refl; agree = agree })

write_wider : (s : State) (n : Map) → Agrees s.map n → (reg s.hart 10 ≡ 1 → IsSome (bytes_from s.map (reg s.hart 11) (reg s.hart 12))) → LikeTurn (write_call s) (write_call (widen s n))
write_wider s n agree mapped =
    like_if (reg s.hart 10 == 1) _ _ _ _
    (λ h.
    let there = some_is (bytes_from s.map (reg s.hart 11) (reg s.hart 12)) (mapped (eqb-true (reg s.hart 10) 1 h)) in
    let wide = bytes_larger s.map n (reg s.hart 11) (reg s.hart 12) there.0 agree there.1 in
    subst (λ o. LikeTurn (wrote s o) (wrote (widen s n) (bytes_from n (reg s.hart 11) (reg s.hart 12)))) (sym there.1)
    (subst (λ o. LikeTurn (wrote s (Some there.0)) (wrote (widen s n) o)) (sym wide) (wrote_wider s n there.0 agree)))
    (λ _. record { map = n; is = refl; agree = agree })

called_wider : (s : State) (n : Map) → Agrees s.map n → (IsWrite s → IsSome (bytes_from s.map (reg s.hart 11) (reg s.hart 12))) → LikeTurn (called s) (called (widen s n))
called_wider s n agree mapped =
    like_if (reg s.hart 17 == 93) _ _ _ _ (λ _. refl)
    (λ _. like_if (reg s.hart 17 == 64) _ _ _ _
    (λ h. write_wider s n agree (λ one. mapped (record { call = eqb-true (reg s.hart 17) 64 h; descriptor = one })))
    (λ _. record { map = n; is = refl; agree = agree }))

after_wider : (s : State) (n : Map) (answer : Step) → Agrees s.map n → IsWithin s answer → LikeTurn (after s answer) (after (widen s n) answer)
after_wider s n Next agree within = record { map = n; is = refl; agree = agree }
after_wider s n IsCall agree within = called_wider s n agree within
after_wider s n (Trap pc cause) agree within = refl

fine_of : (s : State) (answer : Step) → IsWithin s answer → IsFine answer
fine_of s Next within = tt
fine_of s IsCall within = tt
fine_of s (Trap pc cause) within = within

-- the rest of a run on a larger memory
abbrev AlsoWider : ℕ → RunEnd → List ℕ → Type 0
AlsoWider fuel end output = (next : State) (n : Map) → Agrees next.map n → StaysFrom fuel next → RunsFrom fuel next end output → RunsFrom fuel (widen next n) end output

end_wider : (s : State) (n : Map) (e end : RunEnd) (output : List ℕ) → IsEnd s e end output → IsEnd (widen s n) e end output
end_wider s n e end output is = record { end_is = is.end_is; output_is = is.output_is }

rest_wider : (fuel : ℕ) (s : State) (n : Map) (end : RunEnd) (output : List ℕ) (t u : Turn) → AlsoWider fuel end output → LikeTurn t u → Goes (λ next. StaysFrom fuel next) t →
    Continues (λ next. RunsFrom fuel next end output) s end output t → Continues (λ next. RunsFrom fuel next end output) (widen s n) end output u
rest_wider fuel s n end output (goes a) (goes b) again like stays runs =
    subst (λ (x : State). RunsFrom fuel x end output) (sym like.is) (again a like.map like.agree stays runs)
rest_wider fuel s n end output (ends e) (ends f) again like stays runs =
    record { end_is = runs.end_is ∙ sym like; output_is = runs.output_is }
rest_wider fuel s n end output (goes a) (ends f) again like stays runs = absurd like
rest_wider fuel s n end output (ends e) (goes b) again like stays runs = absurd like

turns_wider : (fuel : ℕ) (s : State) (n : Map) (end : RunEnd) (output : List ℕ) (h : Bool) → AlsoWider fuel end output → Agrees s.map n →
    MatchBool h (Unit {0}) ((d : Stepped) → IsStep s.hart s.map d → IsWithin (stepped s d) d.answer × Goes (λ next. StaysFrom fuel next) (after (stepped s d) d.answer)) →
    MatchBool h (IsEnd s (Exited (reg s.hart 10)) end output) ((t : Turn) × IsTurn s t × Continues (λ next. RunsFrom fuel next end output) s end output t) →
    MatchBool h (IsEnd (widen s n) (Exited (reg s.hart 10)) end output) ((t : Turn) × IsTurn (widen s n) t × Continues (λ next. RunsFrom fuel next end output) (widen s n) end output t)
turns_wider fuel s n end output true again agree stays runs = end_wider s n (Exited (reg s.hart 10)) end output runs
turns_wider fuel s n end output false again agree stays runs =
    let turn = runs.1 in
    let d = turn.done in
    let inside = stays d turn.is_step in
    let wide = step_wider s.hart s.map n d agree turn.is_step (fine_of (stepped s d) d.answer inside.0) in
    let like = after_wider (stepped s d) wide.map d.answer wide.agree inside.0 in (
      after (widen (stepped s d) wide.map) d.answer,
      record { done = record d { map = wide.map }; is_step = wide.is_step; leads = refl },
      rest_wider fuel s n end output (after (stepped s d) d.answer) (after (widen (stepped s d) wide.map) d.answer) again like inside.1
          (subst (Continues (λ next. RunsFrom fuel next end output) s end output) turn.leads runs.2),
    )

out_wider : (s : State) (n : Map) (end : RunEnd) (output : List ℕ) (h : Bool) → MatchBool h (IsEnd s (Exited (reg s.hart 10)) end output) (IsEnd s OutOfFuel end output) →
    MatchBool h (IsEnd (widen s n) (Exited (reg s.hart 10)) end output) (IsEnd (widen s n) OutOfFuel end output)
out_wider s n end output true runs = end_wider s n (Exited (reg s.hart 10)) end output runs
out_wider s n end output false runs = end_wider s n OutOfFuel end output runs

pub runs_wider : (fuel : ℕ) (end : RunEnd) (output : List ℕ) → AlsoWider fuel end output
unfolding RunsFrom StaysFrom
runs_wider zero end output next n agree stays runs = out_wider next n end output (is_home next) runs
runs_wider (suc fuel) end output next n agree stays runs =
    turns_wider fuel next n end output (is_home next) (runs_wider fuel end output) agree stays runs

-- the stack is the same above both
pub stack_agrees : (memory larger : Map) → Agrees memory larger → Agrees (with_stack memory) (with_stack larger)
stack_agrees memory larger agree = record {
  same = λ at byte there.
      elim (nat_le STACK_START at && nat_lt at STACK_END) as (λ t. cond t (Some 0) (memory at) ≡ Some byte → cond t (Some 0) (larger at) ≡ Some byte) [
        | true ↦ λ h. h
        | false ↦ λ h. agree.same at byte h
      ] there;
}

-- a step on a larger memory is the step on the memory, where each step there stays within it
abbrev IsFineAlways : Hart → Map → Type 0
IsFineAlways hart m = (d : Stepped) → IsStep hart m d → IsFine d.answer

pub record StepsNarrower (hart : Hart) (m : Map) (e : Stepped) : Type 0 where
  pub done : Stepped
  pub is_step : IsStep hart m done
  pub wider : Wider done e

some_word : (o : Option ℕ) → (o ≡ None → ⊥) → (word : ℕ) × (o ≡ Some word)
some_word (Some word) h = (word, refl)
some_word None h = absurd (h refl)

fetched : (hart : Hart) (m n : Map) (word : ℕ) → Agrees m n → IsFineAlways hart m → hart.pc % 4 ≡ 0 → read n hart.pc 4 ≡ Some word → read m hart.pc 4 ≡ Some word
fetched hart m n word agree fine even is =
    let there = some_word (read m hart.pc 4) (λ none. fine (over m (trapped hart Fetch)) (unmapped even none refl)) in
    let wide = read_larger m n hart.pc 4 there.0 agree there.1 in
    let same : there.0 ≡ word = cc in
    there.1 ∙ ap Some same

step_narrower : (hart : Hart) (m n : Map) (e : Stepped) → Agrees m n → IsStep hart n e → IsFineAlways hart m → StepsNarrower hart m e
step_narrower hart m n e agree (misaligned never x) fine =
    let t = trapped hart (Misaligned hart.pc) in
    record { done = over m t; is_step = misaligned never refl; wider = record { map = n; is = x; agree = agree } }
step_narrower hart m n e agree (unmapped even none x) fine =
    let there = some_word (read m hart.pc 4) (λ none'. fine (over m (trapped hart Fetch)) (unmapped even none' refl)) in
    let wide = read_larger m n hart.pc 4 there.0 agree there.1 in
    absurd cc
step_narrower hart m n e agree (fits even word is insn fit x) fine =
    let step : IsStep hart m (row_of insn hart m) = fits even word (fetched hart m n word agree fine even is) insn fit refl in
    let w = row_wider insn hart m n agree (fine (row_of insn hart m) step) in
    record { done = row_of insn hart m; is_step = step; wider = record { map = w.map; is = x ∙ w.is; agree = w.agree } }
step_narrower hart m n e agree (illegal even word is none x) fine =
    let t = trapped hart (Illegal word) in
    record { done = over m t; is_step = illegal even word (fetched hart m n word agree fine even is) none refl; wider = record { map = n; is = x; agree = agree } }

-- the rest of a run on the memory
abbrev AlsoNarrower : ℕ → RunEnd → List ℕ → Type 0
AlsoNarrower fuel end output = (next : State) (n : Map) → Agrees next.map n → StaysFrom fuel next → RunsFrom fuel (widen next n) end output → RunsFrom fuel next end output

end_narrower : (s : State) (n : Map) (e end : RunEnd) (output : List ℕ) → IsEnd (widen s n) e end output → IsEnd s e end output
end_narrower s n e end output is = record { end_is = is.end_is; output_is = is.output_is }

rest_narrower : (fuel : ℕ) (s : State) (n : Map) (end : RunEnd) (output : List ℕ) (t u : Turn) → AlsoNarrower fuel end output → LikeTurn t u → Goes (λ next. StaysFrom fuel next) t →
    Continues (λ next. RunsFrom fuel next end output) (widen s n) end output u → Continues (λ next. RunsFrom fuel next end output) s end output t
rest_narrower fuel s n end output (goes a) (goes b) again like stays runs =
    again a like.map like.agree stays (subst (λ (x : State). RunsFrom fuel x end output) like.is runs)
rest_narrower fuel s n end output (ends e) (ends f) again like stays runs =
    record { end_is = runs.end_is ∙ like; output_is = runs.output_is }
rest_narrower fuel s n end output (goes a) (ends f) again like stays runs = absurd like
rest_narrower fuel s n end output (ends e) (goes b) again like stays runs = absurd like

turns_narrower : (fuel : ℕ) (s : State) (n : Map) (end : RunEnd) (output : List ℕ) (h : Bool) → AlsoNarrower fuel end output → Agrees s.map n →
    MatchBool h (Unit {0}) ((d : Stepped) → IsStep s.hart s.map d → IsWithin (stepped s d) d.answer × Goes (λ next. StaysFrom fuel next) (after (stepped s d) d.answer)) →
    MatchBool h (IsEnd (widen s n) (Exited (reg s.hart 10)) end output) ((t : Turn) × IsTurn (widen s n) t × Continues (λ next. RunsFrom fuel next end output) (widen s n) end output t) →
    MatchBool h (IsEnd s (Exited (reg s.hart 10)) end output) ((t : Turn) × IsTurn s t × Continues (λ next. RunsFrom fuel next end output) s end output t)
turns_narrower fuel s n end output true again agree stays runs = end_narrower s n (Exited (reg s.hart 10)) end output runs
turns_narrower fuel s n end output false again agree stays runs =
    let turn = runs.1 in
    let narrow = step_narrower s.hart s.map n turn.done agree turn.is_step (λ d step. fine_of (stepped s d) d.answer (stays d step).0) in
    let d = narrow.done in
    let k = narrow.wider.map in
    let inside = stays d narrow.is_step in
    let like = after_wider (stepped s d) k d.answer narrow.wider.agree inside.0 in
    let leads : runs.0 ≡ after (widen (stepped s d) k) d.answer = turn.leads ∙ ap (λ (q : Stepped). after (stepped (widen s n) q) q.answer) narrow.wider.is in (
      after (stepped s d) d.answer,
      record { done = d; is_step = narrow.is_step; leads = refl },
      rest_narrower fuel s n end output (after (stepped s d) d.answer) (after (widen (stepped s d) k) d.answer) again like inside.1
          (subst (Continues (λ next. RunsFrom fuel next end output) (widen s n) end output) leads runs.2),
    )

out_narrower : (s : State) (n : Map) (end : RunEnd) (output : List ℕ) (h : Bool) → MatchBool h (IsEnd (widen s n) (Exited (reg s.hart 10)) end output) (IsEnd (widen s n) OutOfFuel end output) →
    MatchBool h (IsEnd s (Exited (reg s.hart 10)) end output) (IsEnd s OutOfFuel end output)
out_narrower s n end output true runs = end_narrower s n (Exited (reg s.hart 10)) end output runs
out_narrower s n end output false runs = end_narrower s n OutOfFuel end output runs

pub runs_narrower : (fuel : ℕ) (end : RunEnd) (output : List ℕ) → AlsoNarrower fuel end output
unfolding RunsFrom StaysFrom
runs_narrower zero end output next n agree stays runs = out_narrower next n end output (is_home next) runs
runs_narrower (suc fuel) end output next n agree stays runs =
    turns_narrower fuel next n end output (is_home next) (runs_narrower fuel end output) agree stays runs
