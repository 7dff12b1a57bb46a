-- From what was read, answered and delivered to what the program's contract says.
use Rattle.std.proofs.Common.{◌≡◌, ℕ, zero, suc, ◌<◌, ◌≤◌, ◌⊎◌, Bool, true, false, inl, inr, arith, List, [], ◌∷◌, ◌++◌, length, take, drop, Option, Some, None, Result, Ok, Err, refl, sym, ap, ◌∙◌, subst}
use Rattle.std.proofs.lemmas.List.{append-nil}
use Rattle.std.specs.Io.KnownBytes.{Appends}
use Rattle.diagnostic_texts.specs.Explained.{explanation_text}
use Rattle.drill_source.specs.Drill.{drill_text}
use Rattle.front_end.specs.Front.{IsRefusedBy}
use Rattle.front_end.specs.declared.refusal.Refusal.{Refusal}
use Rattle.front_end.specs.declared.refusal.Refusal.TheVariants.{Diagnostic, Limit, NoMemory}
use Rattle.source_meaning.specs.Ast.{Program}
use Rattle.verdict.specs.Verdict.{Verdict, Diagnosed, Limited, Accepted, IsVerdict, image}
use Rattle.pareas_core.specs.declared.status.Status.{Status}
use Rattle.pareas_core.specs.declared.status.Status.TheVariants as statuses
use Rattle.command_line.specs.declared.command.Command.{Command}
use Rattle.command_line.specs.declared.command.Command.TheVariants.{Build, Run, Show, Page, Emu, Dump, Asm, Table, Drill, Explain}
use Rattle.command_line.specs.declared.command.Pass.{Pass}
use Rattle.elf_file.specs.Image.{elf}
use Rattle.elf_file.specs.declared.fault.ElfFault.{ElfFault}
use Rattle.elf_text.specs.Listing.{dumped, file_of_text}
use Rattle.rv_text.specs.declared.fault.AsmFault.{AsmFault}
use Rattle.rv_code.specs.Code.{Layout, most_long, layout_of, words}
use Rattle.rv32_emul.specs.Machine.{Outcome, Course, Exits, Faults, More, machine}
use Rattle.simulation.specs.Behaves.{Behaves, IsFaulty, Overruns}
use Rattle.table_text.specs.Answers.{IsTableAnswer}
use Rattle.table_text.specs.declared.answer.TableAnswer.{TableAnswer}
use Rattle.table_text.specs.declared.answer.TableAnswer.TheVariants as answers
use Rattle.pareas_core.specs.Output.{Due, done, due_of_verdict, due_of_build, Refuses, due_of_machine, due_of_dump, due_of_asm, due_of_drill, drill_lines, drill_steps, due_of_table, status_of, IsDue, built, ran, shown, unshown, paged, unpaged, batched, bad_batch, emulated, listed, assembled, tabled, drilled, explained}
use Rattle.pareas_core.specs.Reading.{WritesPrefix}
use Rattle.pareas_core.specs.Headline.{CompilesTo, RunsAs, Runs, what_was_read, what_was_made, HasRun, reads, read_by, End, HasFailed, HasWorked, GotPrefix, IsWritten, IsAnswer, MeetsWords}
use Rattle.pareas_core.specs.Responses.{HasRead, IsToldOf, IsResponse, IsDelivered, whole, broken_off}
use Rattle.pass_views.specs.Shown.{IsPage, Shows}
use Rattle.pass_views.specs.Stopped.{IsUnpaged, IsUnshown}
use Rattle.pareas_core.proofs.Batched.{image_compiled}

-- ---- what is due

abbrev pub OneVerdict : Bool → List ℕ → Type 0
OneVerdict fold text = (v w : Verdict) → IsVerdict fold text v → IsVerdict fold text w → v ≡ w

-- what is due for a command is what the verdict on a text says
pub record IsByVerdict (c : Command) (fold : Bool) (bytes text : List ℕ) (f : Program → Due) : Type 0 where
  pub due : (v : Verdict) → IsVerdict fold text v → IsDue c bytes (due_of_verdict f text v)
  pub only : (e : Due) → IsDue c bytes e → (v : Verdict) × IsVerdict fold text v × (e ≡ due_of_verdict f text v)

-- an image that is written, and one that runs behind some lines
abbrev pub written : Program → Due
written p = done (image p)

abbrev pub running : (List ℕ → List ℕ) → ℕ → Program → Due
running before steps p = due_of_machine (before (image p)) (machine (image p) steps)

abbrev pub no_lines : List ℕ → List ℕ
no_lines file = []

build_only : (fold : Bool) (bytes : List ℕ) (e : Due) → IsDue (Build fold) bytes e → (v : Verdict) × IsVerdict fold bytes v × (e ≡ due_of_verdict written bytes v)
build_only fold bytes _ (built {v = v} is) = (v, is, refl)

run_only : (steps : ℕ) (fold : Bool) (bytes : List ℕ) (e : Due) → IsDue (Run steps fold) bytes e → (v : Verdict) × IsVerdict fold bytes v × (e ≡ due_of_verdict (running no_lines steps) bytes v)
run_only steps fold bytes _ (ran {v = v} is) = (v, is, refl)

drill_only : (seed functions : ℕ) (bytes : List ℕ) (e : Due) → IsDue (Drill seed functions) bytes e
    → (v : Verdict) × IsVerdict false (drill_text seed functions) v × (e ≡ due_of_verdict (running (drill_lines (drill_text seed functions)) drill_steps) (drill_text seed functions) v)
drill_only seed functions bytes _ (drilled {v = v} is) = (v, is, refl)

pub by_build : (fold : Bool) (bytes : List ℕ) → IsByVerdict (Build fold) fold bytes bytes written
by_build fold bytes = record { due = λ v is. built is; only = build_only fold bytes }

pub by_run : (steps : ℕ) (fold : Bool) (bytes : List ℕ) → IsByVerdict (Run steps fold) fold bytes bytes (running no_lines steps)
by_run steps fold bytes = record { due = λ v is. ran is; only = run_only steps fold bytes }

pub by_drill : (seed functions : ℕ) (bytes : List ℕ)
    → IsByVerdict (Drill seed functions) false bytes (drill_text seed functions) (running (drill_lines (drill_text seed functions)) drill_steps)
by_drill seed functions bytes = record { due = λ v is. drilled is; only = drill_only seed functions bytes }

module _ (c : Command) (fold : Bool) (bytes text : List ℕ) (f : Program → Due) (by : IsByVerdict c fold bytes text f) (one : OneVerdict fold text) where
  -- nothing else is due
  no_other : (v : Verdict) (d : Due) → IsVerdict fold text v → d ≡ due_of_verdict f text v → (e : Due) → IsDue c bytes e → e ≡ d
  no_other v d is same e h = let o = by.only e h in o.2 ∙ ap (due_of_verdict f text) (one o.0 v o.1 is) ∙ sym same

  not_refused : (d : Due) → d.status ≡ statuses.Refused → (d.status ≡ statuses.Done) ⊎ HasRun d.status → ⊥
  not_refused d e (inl a) = cc
  not_refused d e (inr (inl a)) = cc
  not_refused d e (inr (inr (inl a))) = cc
  not_refused d e (inr (inr (inr a))) = cc

  not_limited : (d : Due) → d.status ≡ statuses.Limit → (d.status ≡ statuses.Done) ⊎ HasRun d.status → ⊥
  not_limited d e (inl a) = cc
  not_limited d e (inr (inl a)) = cc
  not_limited d e (inr (inr (inl a))) = cc
  not_limited d e (inr (inr (inr a))) = cc

  told : (v : Verdict) (d : Due) → IsVerdict fold text v → d ≡ due_of_verdict f text v → ((d.status ≡ statuses.Done) ⊎ HasRun d.status → ⊥) → IsResponse c bytes d
  told v d is same neither = record {
    due = subst (IsDue c bytes) (sym same) (by.due v is);
    only = no_other v d is same;
    built = λ wanted build is_done. absurd (neither (inl is_done));
    ran = λ wanted source steps runs h. absurd (neither (inr h));
  }

  -- a source with a diagnostic, or with a limit that it passes
  pub refused : (r : Refusal) (d : Due) → IsRefusedBy fold text r → IsToldOf text r d → IsResponse c bytes d
  refused (Diagnostic code at) d is line = told (Diagnosed code at) d is line (not_refused d (ap (λ (d : Due). d.status) line))
  refused (Limit code at size) d is line = told (Limited code at size) d is line (not_limited d (ap (λ (d : Due). d.status) line))
  refused NoMemory d is line = absurd line

no_build_run : (fold wanted : Bool) (bytes source : List ℕ) (steps : ℕ) → Runs (Build fold) bytes wanted source steps → ⊥
no_build_run fold wanted bytes source steps r = elim r [ ]

no_emu_run : (most : ℕ) (wanted : Bool) (bytes source : List ℕ) (steps : ℕ) → Runs (Emu most) bytes wanted source steps → ⊥
no_emu_run most wanted bytes source steps r = elim r [ ]

no_dump_run : (wanted : Bool) (bytes source : List ℕ) (steps : ℕ) → Runs Dump bytes wanted source steps → ⊥
no_dump_run wanted bytes source steps r = elim r [ ]

no_asm_run : (wanted : Bool) (bytes source : List ℕ) (steps : ℕ) → Runs Asm bytes wanted source steps → ⊥
no_asm_run wanted bytes source steps r = elim r [ ]

no_table_run : (word : Option (List ℕ)) (entries wanted : Bool) (bytes source : List ℕ) (steps : ℕ) → Runs (Table word entries) bytes wanted source steps → ⊥
no_table_run word entries wanted bytes source steps r = elim r [ ]

no_explain_run : (code : ℕ) (wanted : Bool) (bytes source : List ℕ) (steps : ℕ) → Runs (Explain code) bytes wanted source steps → ⊥
no_explain_run code wanted bytes source steps r = elim r [ ]

no_show_run : (pass : Pass) (wanted : Bool) (bytes source : List ℕ) (steps : ℕ) → Runs (Show pass) bytes wanted source steps → ⊥
no_show_run pass wanted bytes source steps r = elim r [ ]

no_page_run : (wanted : Bool) (bytes source : List ℕ) (steps : ℕ) → Runs Page bytes wanted source steps → ⊥
no_page_run wanted bytes source steps r = elim r [ ]

-- an image that was built
-- a build folds or doesn't, as its word says
same_build : (fold wanted : Bool) → Build fold ≡ Build wanted → fold ≡ wanted
same_build fold wanted e = cc

pub compiled : (fold : Bool) (bytes out notes : List ℕ) → CompilesTo fold bytes out → OneVerdict fold bytes → notes ≡ []
    → IsResponse (Build fold) bytes (record { status = statuses.Done; out = out; notes = notes })
compiled fold bytes out notes k one none =
    let same : done (image k.program) ≡ record { status = statuses.Done; out = out; notes = notes } = λ i. record { status = statuses.Done; out = sym k.is_image i; notes = sym none i } in
    record {
      due = subst (IsDue (Build fold) bytes) same (built k.accepted);
      only = no_other (Build fold) fold bytes bytes written (by_build fold bytes) one (Accepted k.program) _ k.accepted (sym same);
      built = λ wanted build is_done. subst (λ w. CompilesTo w bytes out) (same_build fold wanted build) k;
      ran = λ wanted source steps runs h. absurd (no_build_run fold wanted bytes source steps runs);
    }

-- where the machine's status is a fault, the machine is faulty
came_to_fault : (file : List ℕ) (steps : ℕ) (o : Outcome) (printed : List ℕ) → machine file steps ≡ Ok (record { outcome = o; printed = printed })
    → status_of o ≡ statuses.Machine → IsFaulty file steps printed
came_to_fault file steps (Exits value) printed e h = cc
came_to_fault file steps (Faults kind at address) printed e h = (kind, at, address, e)
came_to_fault file steps More printed e h = cc

faulty : (lines file : List ℕ) (steps : ℕ) → (due_of_machine lines (machine file steps)).status ≡ statuses.Machine → (printed : List ℕ) × IsFaulty file steps printed
faulty lines file steps h = go (machine file steps) refl h
  where
    go : (m : Result Course ElfFault) → machine file steps ≡ m → (due_of_machine lines m).status ≡ statuses.Machine → (printed : List ℕ) × IsFaulty file steps printed
    go (Ok course) e h = (course.printed, came_to_fault file steps course.outcome course.printed e h)
    go (Err fault) e h = cc

-- a program whose image is faulty overruns its stack
overrun : (layout : Layout) (p : Program) (file : List ℕ) (m : ℕ) → Behaves layout p file → ((printed : List ℕ) × IsFaulty file m printed) → (printed : List ℕ) × Overruns layout p file m printed
overrun layout p file m behaves (printed, faulty) = (printed, (behaves.overruns_only m printed faulty).0)

-- a command runs the program of this text alone, and for this many steps
abbrev pub RunsOnly : Command → List ℕ → Bool → List ℕ → ℕ → Type 0
RunsOnly c bytes fold text steps = (wanted : Bool) (source : List ℕ) (n : ℕ) → Runs c bytes wanted source n → (wanted ≡ fold) × (source ≡ text) × (n ≡ steps)

pub run_runs : (steps : ℕ) (fold : Bool) (bytes : List ℕ) → RunsOnly (Run steps fold) bytes fold bytes steps
run_runs steps fold bytes _ _ _ what_was_read = (refl, refl, refl)

pub drill_runs : (seed functions : ℕ) (bytes : List ℕ) → RunsOnly (Drill seed functions) bytes false (drill_text seed functions) drill_steps
drill_runs seed functions bytes _ _ _ what_was_made = (refl, refl, refl)

-- the run of an image
module _ (c : Command) (fold : Bool) (bytes text : List ℕ) (before : List ℕ → List ℕ) (steps : ℕ) (by : IsByVerdict c fold bytes text (running before steps))
    (runs_only : RunsOnly c bytes fold text steps) (no_build : (wanted : Bool) → c ≡ Build wanted → ⊥) (one : OneVerdict fold text) where
  pub run_through : (file : List ℕ) (d : Due) → CompilesTo fold text file → d ≡ due_of_machine (before file) (machine file steps) → IsResponse c bytes d
  run_through file d k is =
      let same : running before steps k.program ≡ d = ap (λ f. due_of_machine (before f) (machine f steps)) (sym k.is_image) ∙ sym is in
      let layout = layout_of k.program in
      let behaves : Behaves layout k.program (image k.program) = subst (Behaves layout k.program) k.is_image k.behaves in
      record {
        due = subst (IsDue c bytes) same (by.due (Accepted k.program) k.accepted);
        only = no_other c fold bytes text (running before steps) by one (Accepted k.program) d k.accepted (sym same);
        built = λ wanted build is_done. absurd (no_build wanted build);
        ran = λ wanted source n runs h.
            let it = runs_only wanted source n runs in
            subst (λ w. RunsAs w source n d.status) (sym it.0) (subst (λ s. RunsAs fold s n d.status) (sym it.1) (record {
              program = k.program;
              accepted = k.accepted;
              behaves = behaves;
              overran = λ fault. subst (λ n. (printed : List ℕ) × Overruns layout k.program (image k.program) n printed) (sym it.2)
                  (overrun layout k.program (image k.program) steps behaves
                  (faulty (before (image k.program)) (image k.program) steps (ap (λ (d : Due). d.status) same ∙ fault)));
            }));
      }

run_is_no_build : (steps : ℕ) (fold wanted : Bool) → Run steps fold ≡ Build wanted → ⊥
run_is_no_build steps fold wanted e = cc

drill_is_no_build : (seed functions : ℕ) (wanted : Bool) → Drill seed functions ≡ Build wanted → ⊥
drill_is_no_build seed functions wanted e = cc

pub ran_through : (steps : ℕ) (fold : Bool) (bytes file : List ℕ) (d : Due) → CompilesTo fold bytes file → OneVerdict fold bytes → d ≡ due_of_machine [] (machine file steps)
    → IsResponse (Run steps fold) bytes d
ran_through steps fold bytes file d k one is =
    run_through (Run steps fold) fold bytes bytes no_lines steps (by_run steps fold bytes) (run_runs steps fold bytes) (run_is_no_build steps fold) one file d k is

pub drilled_through : (seed functions : ℕ) (bytes file : List ℕ) (d : Due) → CompilesTo false (drill_text seed functions) file → OneVerdict false (drill_text seed functions)
    → d ≡ due_of_drill (drill_text seed functions) file → IsResponse (Drill seed functions) bytes d
drilled_through seed functions bytes file d k one is =
    let text = drill_text seed functions in
    run_through (Drill seed functions) false bytes text (drill_lines text) drill_steps (by_drill seed functions bytes) (drill_runs seed functions bytes)
    (drill_is_no_build seed functions) one file d k is

-- the run of a file
emulated_due : (steps : ℕ) (bytes : List ℕ) (e : Due) → IsDue (Emu steps) bytes e → e ≡ due_of_machine [] (machine bytes steps)
emulated_due steps bytes _ emulated = refl

pub emulates : (steps : ℕ) (bytes : List ℕ) (d : Due) → d ≡ due_of_machine [] (machine bytes steps) → IsResponse (Emu steps) bytes d
emulates steps bytes d is = record {
  due = subst (IsDue (Emu steps) bytes) (sym is) emulated;
  only = λ e h. emulated_due steps bytes e h ∙ sym is;
  built = λ wanted build is_done. let e : Emu steps ≡ Build wanted = build in cc;
  ran = λ wanted source n runs h. absurd (no_emu_run steps wanted bytes source n runs);
}

-- ---- listings

dump_due : (bytes : List ℕ) (e : Due) → IsDue Dump bytes e → e ≡ due_of_dump (dumped bytes)
dump_due bytes _ listed = refl

pub dumps : (bytes : List ℕ) (d : Due) → d ≡ due_of_dump (dumped bytes) → IsResponse Dump bytes d
dumps bytes d is = record {
  due = subst (IsDue Dump bytes) (sym is) listed;
  only = λ e h. dump_due bytes e h ∙ sym is;
  built = λ wanted build is_done. let e : Dump ≡ Build wanted = build in cc;
  ran = λ wanted source n runs h. absurd (no_dump_run wanted bytes source n runs);
}

asm_due : (bytes : List ℕ) (e : Due) → IsDue Asm bytes e → e ≡ due_of_asm (file_of_text bytes)
asm_due bytes _ assembled = refl

pub assembles : (bytes : List ℕ) (d : Due) → d ≡ due_of_asm (file_of_text bytes) → IsResponse Asm bytes d
assembles bytes d is = record {
  due = subst (IsDue Asm bytes) (sym is) assembled;
  only = λ e h. asm_due bytes e h ∙ sym is;
  built = λ wanted build is_done. let e : Asm ≡ Build wanted = build in cc;
  ran = λ wanted source n runs h. absurd (no_asm_run wanted bytes source n runs);
}

-- the listing of an image gives the image again, by the laws of listings and of accepted sources
pub listed_and_assembled : ((ws : List ℕ) → 0 < length ws → length ws ≤ 4194304 → (text : List ℕ) × (dumped (elf ws) ≡ Ok text) × (file_of_text text ≡ Ok (elf ws)))
    → ((fold : Bool) (text : List ℕ) (p : Program) → IsVerdict fold text (Accepted p) → (0 < length (words p)) × (length (words p) ≤ most_long))
    → (fold : Bool) (source file : List ℕ) → CompilesTo fold source file → (text : List ℕ) × IsDue Dump file (done text) × IsDue Asm text (done file)
listed_and_assembled again fits fold source file k =
    let few = fits fold source k.program k.accepted in
    let it = again (words k.program) few.0 (omega (arith, few.1)) in
    let tells : dumped file ≡ Ok it.0 = ap dumped k.is_image ∙ it.1 in
    let gives : file_of_text it.0 ≡ Ok file = it.2 ∙ ap Ok (sym k.is_image) in
    (it.0, subst (IsDue Dump file) (ap due_of_dump tells) listed, subst (IsDue Asm it.0) (ap due_of_asm gives) assembled)

-- ---- a grammar file

table_due : (word : Option (List ℕ)) (entries : Bool) (bytes : List ℕ) (e : Due) → IsDue (Table word entries) bytes e
    → (answer : TableAnswer) × IsTableAnswer bytes entries word answer × (e ≡ due_of_table answer)
table_due word entries bytes _ (tabled {answer = answer} is) = (answer, is, refl)

-- a table's response is neither built nor run
pub tables : (word : Option (List ℕ)) (entries : Bool) (bytes : List ℕ) (answer : TableAnswer) (d : Due)
    → ((a b : TableAnswer) → IsTableAnswer bytes entries word a → IsTableAnswer bytes entries word b → a ≡ b)
    → IsTableAnswer bytes entries word answer → d ≡ due_of_table answer → IsResponse (Table word entries) bytes d
tables word entries bytes answer d one is same = record {
  due = subst (IsDue (Table word entries) bytes) (sym same) (tabled is);
  only = λ e h. let other = table_due word entries bytes e h in other.2 ∙ ap due_of_table (one other.0 answer other.1 is) ∙ sym same;
  built = λ wanted build is_done. let e : Table word entries ≡ Build wanted = build in cc;
  ran = λ wanted source n runs h. absurd (no_table_run word entries wanted bytes source n runs);
}

-- ---- an explanation

explain_due : (code : ℕ) (bytes : List ℕ) (e : Due) → IsDue (Explain code) bytes e → e ≡ done (explanation_text code)
explain_due code bytes _ explained = refl

pub explains : (code : ℕ) (bytes : List ℕ) (d : Due) → d ≡ done (explanation_text code) → IsResponse (Explain code) bytes d
explains code bytes d is = record {
  due = subst (IsDue (Explain code) bytes) (sym is) explained;
  only = λ e h. explain_due code bytes e h ∙ sym is;
  built = λ wanted build is_done. let e : Explain code ≡ Build wanted = build in cc;
  ran = λ wanted source n runs h. absurd (no_explain_run code wanted bytes source n runs);
}

-- ---- the tables of a pass

module _ (pass : Pass) (bytes : List ℕ) where
  IsShownDue : Due → Type 0
  IsShownDue e = (text : List ℕ) × Shows bytes pass text × (e ≡ done text)

  IsUnshownDue : Due → Type 0
  IsUnshownDue e = (v : Verdict) × ((text : List ℕ) → ¬ Shows bytes pass text) × IsVerdict false bytes v × Refuses v × (e ≡ due_of_build bytes v)

  show_due : (e : Due) → IsDue (Show pass) bytes e → IsShownDue e ⊎ IsUnshownDue e
  unfolding IsShownDue IsUnshownDue
  show_due _ (shown {text = text} is) = inl (text, is, refl)
  show_due _ (unshown {v = v} none is refused) = inr (v, none, is, refused, refl)

  pub shows : ((a b : List ℕ) → Shows bytes pass a → Shows bytes pass b → a ≡ b) → (text : List ℕ) (d : Due) → Shows bytes pass text → d ≡ done text → IsResponse (Show pass) bytes d
  unfolding IsShownDue IsUnshownDue
  shows one text d is same = record {
    due = subst (IsDue (Show pass) bytes) (sym same) (shown is);
    only = λ e h. elim (show_due e h) [ inl o ↦ o.2 ∙ ap done (one o.0 text o.1 is) ∙ sym same | inr o ↦ absurd (o.1 text is) ];
    built = λ wanted build is_done. let e : Show pass ≡ Build wanted = build in cc;
    ran = λ wanted source n runs h. absurd (no_show_run pass wanted bytes source n runs);
  }

  unshown_due : OneVerdict false bytes → (v : Verdict) (d : Due) → ((text : List ℕ) → ¬ Shows bytes pass text) → IsVerdict false bytes v → Refuses v → d ≡ due_of_build bytes v → IsResponse (Show pass) bytes d
  unfolding IsShownDue IsUnshownDue
  unshown_due one v d none is refused same = record {
    due = subst (IsDue (Show pass) bytes) (sym same) (unshown none is refused);
    only = λ e h. elim (show_due e h) [ inl o ↦ absurd (none o.0 o.1) | inr o ↦ o.4 ∙ ap (due_of_build bytes) (one o.0 v o.2 is) ∙ sym same ];
    built = λ wanted build is_done. let e : Show pass ≡ Build wanted = build in cc;
    ran = λ wanted source n runs h. absurd (no_show_run pass wanted bytes source n runs);
  }

  pub shows_none : OneVerdict false bytes → (r : Refusal) (d : Due) → IsUnshown bytes pass r → IsToldOf bytes r d → IsResponse (Show pass) bytes d
  shows_none one (Diagnostic code at) d h line = unshown_due one (Diagnosed code at) d h.1 h.0 tt line
  shows_none one (Limit code at size) d h line = unshown_due one (Limited code at size) d h.1 h.0 tt line
  shows_none one NoMemory d h line = absurd line

  pub accepted_shown : OneVerdict false bytes → (p : Program) (d : Due) → IsVerdict false bytes (Accepted p) → IsDue (Show pass) bytes d → (text : List ℕ) × Shows bytes pass text × (d ≡ done text)
  unfolding IsShownDue IsUnshownDue
  accepted_shown one p d is due = elim (show_due d due) [ inl o ↦ o | inr o ↦ absurd (subst Refuses (one o.0 (Accepted p) o.2 is) o.3) ]

-- ---- the page

module _ (bytes : List ℕ) where
  IsPagedDue : Due → Type 0
  IsPagedDue e = (text : List ℕ) × IsPage bytes text × (e ≡ done text)

  IsUnpagedDue : Due → Type 0
  IsUnpagedDue e = (v : Verdict) × ((text : List ℕ) → ¬ IsPage bytes text) × IsVerdict false bytes v × Refuses v × (e ≡ due_of_build bytes v)

  page_due : (e : Due) → IsDue Page bytes e → IsPagedDue e ⊎ IsUnpagedDue e
  unfolding IsPagedDue IsUnpagedDue
  page_due _ (paged {text = text} is) = inl (text, is, refl)
  page_due _ (unpaged {v = v} none is refused) = inr (v, none, is, refused, refl)

  pub pages : ((a b : List ℕ) → IsPage bytes a → IsPage bytes b → a ≡ b) → (text : List ℕ) (d : Due) → IsPage bytes text → d ≡ done text → IsResponse Page bytes d
  unfolding IsPagedDue IsUnpagedDue
  pages one text d is same = record {
    due = subst (IsDue Page bytes) (sym same) (paged is);
    only = λ e h. elim (page_due e h) [ inl o ↦ o.2 ∙ ap done (one o.0 text o.1 is) ∙ sym same | inr o ↦ absurd (o.1 text is) ];
    built = λ wanted build is_done. let e : Page ≡ Build wanted = build in cc;
    ran = λ wanted source n runs h. absurd (no_page_run wanted bytes source n runs);
  }

  unpaged_due : OneVerdict false bytes → (v : Verdict) (d : Due) → ((text : List ℕ) → ¬ IsPage bytes text) → IsVerdict false bytes v → Refuses v → d ≡ due_of_build bytes v → IsResponse Page bytes d
  unfolding IsPagedDue IsUnpagedDue
  unpaged_due one v d none is refused same = record {
    due = subst (IsDue Page bytes) (sym same) (unpaged none is refused);
    only = λ e h. elim (page_due e h) [ inl o ↦ absurd (none o.0 o.1) | inr o ↦ o.4 ∙ ap (due_of_build bytes) (one o.0 v o.2 is) ∙ sym same ];
    built = λ wanted build is_done. let e : Page ≡ Build wanted = build in cc;
    ran = λ wanted source n runs h. absurd (no_page_run wanted bytes source n runs);
  }

  pub pages_none : OneVerdict false bytes → (r : Refusal) (d : Due) → IsUnpaged bytes r → IsToldOf bytes r d → IsResponse Page bytes d
  pages_none one (Diagnostic code at) d h line = unpaged_due one (Diagnosed code at) d h.1 h.0 tt line
  pages_none one (Limit code at size) d h line = unpaged_due one (Limited code at size) d h.1 h.0 tt line
  pages_none one NoMemory d h line = absurd line

  pub accepted_paged : OneVerdict false bytes → (p : Program) (d : Due) → IsVerdict false bytes (Accepted p) → IsDue Page bytes d → (text : List ℕ) × IsPage bytes text × (d ≡ done text)
  unfolding IsPagedDue IsUnpagedDue
  accepted_paged one p d is due = elim (page_due d due) [ inl o ↦ o | inr o ↦ absurd (subst Refuses (one o.0 (Accepted p) o.2 is) o.3) ]

-- ---- what the outputs got

pub got : (before after : Option (List ℕ)) (bytes : List ℕ) → Appends before after bytes → (old : List ℕ) → before ≡ Some old → after ≡ Some (old ++ bytes)
got None after bytes h old e = cc
got (Some xs) None bytes h old e = absurd h
got (Some xs) (Some ys) bytes h old e = let same : xs ≡ old = cc in ap Some (h ∙ ap (λ l. l ++ bytes) same)

pub got_prefix : (before after : Option (List ℕ)) (bytes : List ℕ) → WritesPrefix before after bytes → (old : List ℕ) → before ≡ Some old → (front rest : List ℕ) × (bytes ≡ front ++ rest) × (after ≡ Some (old ++ front))
got_prefix before after bytes p old e = (p.front, p.rest, p.parts, got before after p.front p.written old e)

pub got_all : (before after : Option (List ℕ)) (bytes : List ℕ) → Appends before after bytes → (old : List ℕ) → before ≡ Some old → (front rest : List ℕ) × (bytes ≡ front ++ rest) × (after ≡ Some (old ++ front))
got_all before after bytes h old e = (bytes, [], sym (append-nil bytes), got before after bytes h old e)

pub got_none : (known : Option (List ℕ)) (bytes : List ℕ) → (old : List ℕ) → known ≡ Some old → (front rest : List ℕ) × (bytes ≡ front ++ rest) × (known ≡ Some (old ++ front))
got_none known bytes old e = ([], bytes, refl, e ∙ ap Some (sym (append-nil old)))

-- ---- the contract

-- a due status is none of the faults'
IsOutcome : Status → Type 0
IsOutcome statuses.Done = Unit {0}
IsOutcome statuses.Refused = Unit {0}
IsOutcome statuses.Limit = Unit {0}
IsOutcome statuses.Running = Unit {0}
IsOutcome statuses.Machine = Unit {0}
IsOutcome statuses.BadImage = Unit {0}
IsOutcome statuses.Conflict = Unit {0}
IsOutcome statuses.BadGrammar = Unit {0}
IsOutcome statuses.BadAsm = Unit {0}
IsOutcome statuses.BadBatch = Unit {0}
IsOutcome s = ⊥

course_outcome : (o : Outcome) → IsOutcome (status_of o)
unfolding IsOutcome
course_outcome (Exits value) = tt
course_outcome (Faults kind at address) = tt
course_outcome More = tt

machine_outcome : (lines : List ℕ) (m : Result Course ElfFault) → IsOutcome (due_of_machine lines m).status
unfolding IsOutcome
machine_outcome lines (Ok course) = course_outcome course.outcome
machine_outcome lines (Err fault) = tt

dump_outcome : (m : Result (List ℕ) ElfFault) → IsOutcome (due_of_dump m).status
unfolding IsOutcome
dump_outcome (Ok text) = tt
dump_outcome (Err fault) = tt

asm_outcome : (m : Result (List ℕ) AsmFault) → IsOutcome (due_of_asm m).status
unfolding IsOutcome
asm_outcome (Ok file) = tt
asm_outcome (Err fault) = tt

running_outcome : (before : List ℕ → List ℕ) (steps : ℕ) (p : Program) → IsOutcome (running before steps p).status
running_outcome before steps p = machine_outcome (before (image p)) (machine (image p) steps)

verdict_outcome : (f : Program → Due) (bytes : List ℕ) (v : Verdict) → ((p : Program) → IsOutcome (f p).status) → IsOutcome (due_of_verdict f bytes v).status
unfolding IsOutcome
verdict_outcome f bytes (Diagnosed code place) h = tt
verdict_outcome f bytes (Limited code place n) h = tt
verdict_outcome f bytes (Accepted p) h = h p

table_outcome : (answer : TableAnswer) → IsOutcome (due_of_table answer).status
unfolding IsOutcome
table_outcome (answers.Tabled text) = tt
table_outcome (answers.NoGrammar text) = tt
table_outcome (answers.Conflict text) = tt
table_outcome (answers.Syntax place) = tt

outcome : (c : Command) (bytes : List ℕ) (d : Due) → IsDue c bytes d → IsOutcome d.status
unfolding IsOutcome
outcome _ bytes _ (built {v = v} is) = verdict_outcome written bytes v (λ p. tt)
outcome _ bytes _ (ran {steps = steps} {v = v} is) = verdict_outcome (running no_lines steps) bytes v (running_outcome no_lines steps)
outcome _ bytes _ (drilled {seed = seed} {functions = functions} {v = v} is) =
    let text = drill_text seed functions in
    verdict_outcome (running (drill_lines text) drill_steps) text v (running_outcome (drill_lines text) drill_steps)
outcome _ bytes _ (shown is) = tt
outcome _ bytes _ (unshown {v = v} none is refused) = verdict_outcome written bytes v (λ p. tt)
outcome _ bytes _ (paged is) = tt
outcome _ bytes _ (unpaged {v = v} none is refused) = verdict_outcome written bytes v (λ p. tt)
outcome _ bytes _ (batched is answers) = tt
outcome _ bytes _ (bad_batch is) = tt
outcome _ bytes _ (emulated {steps = steps}) = machine_outcome [] (machine bytes steps)
outcome _ bytes _ explained = tt
outcome _ bytes _ listed = dump_outcome (dumped bytes)
outcome _ bytes _ assembled = asm_outcome (file_of_text bytes)
outcome _ bytes _ (tabled {answer = answer} is) = table_outcome answer

no_outcome : (s : Status) → (s ≡ statuses.Usage) ⊎ (s ≡ statuses.ReadFault) ⊎ (s ≡ statuses.WriteFault) ⊎ (s ≡ statuses.NoMemory) → IsOutcome s → ⊥
unfolding IsOutcome
no_outcome s (inl e) h = subst IsOutcome e h
no_outcome s (inr (inl e)) h = subst IsOutcome e h
no_outcome s (inr (inr (inl e))) h = subst IsOutcome e h
no_outcome s (inr (inr (inr e))) h = subst IsOutcome e h

drop_read : (n : ℕ) (xs : List ℕ) → drop (length (take n xs)) xs ≡ drop n xs
drop_read zero xs = refl
drop_read (suc n) [] = refl
drop_read (suc n) (x ∷ xs) = drop_read n xs

no_words : {A : Type 0} (words : Option Command) (c : Command) → words ≡ Some c → words ≡ None → A
no_words words c e n = let both : Some c ≡ None = sym e ∙ n in cc

same_command : (words : Option Command) (c d : Command) → words ≡ Some c → words ≡ Some d → c ≡ d
same_command words c d e f = let both : Some c ≡ Some d = sym e ∙ f in cc

module _ (words : Option Command) (c : Command) (is_command : words ≡ Some c) (input : End) (bytes : List ℕ)
    (read : HasRead c input.before input.after bytes) (worked : input.faults_after ≡ input.faults_before) (undisturbed : reads c ≡ false → input.after ≡ input.before)
    (d : Due) (response : IsResponse c bytes d)
    (behave : (text : List ℕ) (p : Program) → IsVerdict false text (Accepted p) → Behaves (layout_of p) p (image p)) (out notes : End) where
  read_for : (e : Command) (all : List ℕ) → words ≡ Some e → input.before ≡ Some all → (c ≡ e) × (bytes ≡ read_by e all)
  read_for e all is_e is_all =
      let same = same_command words c e is_command is_e in
      (same, subst (λ k. bytes ≡ read_by k all) same (read all is_all).0)

  only_due : (e : Command) (all : List ℕ) → words ≡ Some e → input.before ≡ Some all → (f : Due) → IsDue e (read_by e all) f → d ≡ f
  only_due e all is_e is_all f h =
      let r = read_for e all is_e is_all in
      sym (response.only f (subst (λ k. IsDue k bytes f) (sym r.0) (subst (λ l. IsDue e l f) (sym r.1) h)))

  not_disturbed : (e : Command) → words ≡ Some e → reads e ≡ false → (input.after ≡ input.before) × (input.faults_after ≡ input.faults_before)
  not_disturbed e is_e none = (undisturbed (subst (λ k. reads k ≡ false) (sym (same_command words c e is_command is_e)) none), worked)

  answered : IsWritten d.status out notes d → (e : Command) (all : List ℕ) → words ≡ Some e → input.before ≡ Some all → IsAnswer e all d.status input out notes
  answered w e all is_e is_all =
      let r = read_for e all is_e is_all in
      record {
        read = subst (λ k. input.after ≡ Some (drop (length (read_by k all)) all)) r.0 (read all is_all).1;
        due = (d, subst (λ k. IsDue k (read_by e all) d) r.0 (subst (λ l. IsDue c l d) r.1 response.due), w);
        only = λ f h. subst (IsWritten d.status out notes) (only_due e all is_e is_all f h) w;
        built = λ fold build is_done. (d.out, subst (λ l. CompilesTo fold l d.out) r.1 (response.built fold (r.0 ∙ build) is_done), w.is_out);
        built_each = λ is_batch sources answers records are k text a is_source is_answer is_image. image_compiled behave sources answers are k text a is_source is_answer is_image;
        ran = λ fold source steps runs h. response.ran fold source steps (subst (λ k. Runs k bytes fold source steps) (sym r.0) (subst (λ l. Runs e l fold source steps) (sym r.1) runs)) h;
      }

  met_whole : IsWritten d.status out notes d → out.faults_after ≡ out.faults_before → notes.faults_after ≡ notes.faults_before → MeetsWords words input out notes d.status
  met_whole w fo fn =
      let o = outcome c bytes d response.due in
      record {
        answer = λ e all is_e is_all hi ho hn memory. answered w e all is_e is_all;
        usage = no_words words c is_command;
        usage_only = λ e. absurd (no_outcome d.status (inl e) o);
        unread = no_words words c is_command;
        undisturbed = not_disturbed;
        no_output = no_words words c is_command;
        read_fault = λ e. absurd (no_outcome d.status (inr (inl e)) o);
        read_fault_only = λ h. absurd (h worked);
        write_fault = λ e. absurd (no_outcome d.status (inr (inr (inl e))) o);
        write_fault_only = λ h. absurd (h (fo, fn));
        prefix = λ e all f is_e is_all fault h. absurd (no_outcome d.status (inr (inr (inl fault))) o);
        nothing = λ h. absurd (elim h [ inl e ↦ no_outcome d.status (inr (inl e)) o | inr e ↦ no_outcome d.status (inr (inr (inr e))) o ]);
      }

  failed_once : HasFailed out ⊎ HasFailed notes → HasWorked out → HasWorked notes → ⊥
  failed_once (inl f) ho hn = let a = ho.0 in let b = ho.1 in omega arith
  failed_once (inr f) ho hn = let a = hn.0 in let b = hn.1 in omega arith

  met_broken : HasFailed out ⊎ HasFailed notes → GotPrefix out d.out → GotPrefix notes d.notes → MeetsWords words input out notes statuses.WriteFault
  met_broken f po pn = record {
    answer = λ e all is_e is_all hi ho hn memory. absurd (failed_once f ho hn);
    usage = no_words words c is_command;
    usage_only = λ e. cc;
    unread = no_words words c is_command;
    undisturbed = not_disturbed;
    no_output = no_words words c is_command;
    read_fault = λ e. cc;
    read_fault_only = λ h. absurd (h worked);
    write_fault = λ e. f;
    write_fault_only = λ h. refl;
    prefix = λ e all g is_e is_all fault h.
        let same = only_due e all is_e is_all g h in (subst (λ (k : Due). GotPrefix out k.out) same po, subst (λ (k : Due). GotPrefix notes k.notes) same pn);
    nothing = λ h. elim h [ inl e ↦ cc | inr e ↦ cc ];
  }

  pub met : (status : Status) → IsDelivered d out notes status → MeetsWords words input out notes status
  met _ (whole w fo fn) = met_whole w fo fn
  met _ (broken_off f po pn) = met_broken f po pn

-- a read that failed
pub failed_read : (words : Option Command) (c : Command) → words ≡ Some c → reads c ≡ true → (input out notes : End) → HasFailed input → out.after ≡ out.before → out.faults_after ≡ out.faults_before
    → notes.after ≡ notes.before → notes.faults_after ≡ notes.faults_before → MeetsWords words input out notes statuses.ReadFault
failed_read words c is does input out notes failed out_is out_faults notes_are notes_faults = record {
  answer = λ e all is_e is_all hi ho hn memory. absurd (not_both hi);
  usage = no_words words c is;
  usage_only = λ e. cc;
  unread = no_words words c is;
  undisturbed = λ e is_e none. absurd (reads_both (same_command words c e is is_e) none);
  no_output = no_words words c is;
  read_fault = λ e. (failed, (c, is, does));
  read_fault_only = λ h. refl;
  write_fault = λ e. cc;
  write_fault_only = λ h. absurd (h (out_faults, notes_faults));
  prefix = λ e all d is_e is_all fault h. cc;
  nothing = λ h. (unchanged out out_is, unchanged notes notes_are);
}
  where
    reads_both : {e : Command} → c ≡ e → reads e ≡ false → ⊥
    reads_both same none = let both : true ≡ false = sym does ∙ ap reads same ∙ none in cc

    not_both : HasWorked input → ⊥
    not_both hi = let f = failed in let a = hi.0 in let b = hi.1 in omega arith

    unchanged : (e : End) → e.after ≡ e.before → (old : List ℕ) → e.before ≡ Some old → e.after ≡ Some (old ++ [])
    unchanged e same old known = same ∙ known ∙ ap Some (sym (append-nil old))
