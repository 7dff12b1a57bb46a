-- Program headers, one after the other.
use Rattle.std.proofs.Common.{◌≡◌, ℕ, zero, suc, ◌+◌, ◌*◌, ◌-◌, ◌<◌, List, refl, sym, ap, ◌∙◌, arith, Result, Ok, Err}
use Rattle.elf_file.specs.declared.fault.ElfFault.{ElfFault}
use Rattle.elf_file.specs.declared.fault.ReadError.{ReadError}
use Rattle.elf_file.specs.declared.fault.ReadError.TheVariants.{Fault, NoMemory}
use Rattle.elf_file.specs.Load.{Loaded, with_header, with_headers}
use Rattle.elf_file.specs.Reading.{IsRefusal}

-- after a fault nothing changes
pub headers-err : (file : List ℕ) (n i o : ℕ) (fault : ElfFault) → with_headers file n i o (Err fault) ≡ Err fault
headers-err file zero i o fault = refl
headers-err file (suc n) i o fault = refl

-- one header more
pub headers-next : (file : List ℕ) (count number start : ℕ) (earlier : List Loaded) → number < count
    → with_headers file (count - number) number (start + 32 * number) (Ok earlier) ≡ with_headers file (count - (number + 1)) (number + 1) (start + 32 * (number + 1)) (with_header file number (start + 32 * number) earlier)
headers-next file count number start earlier h =
    let e : count - number ≡ suc (count - (number + 1)) = omega arith in
    let o : start + 32 * number + 32 ≡ start + 32 * (number + 1) = omega arith in
    ap (λ (n : ℕ). with_headers file n number (start + 32 * number) (Ok earlier)) e ∙ ap (λ (q : ℕ). with_headers file (count - (number + 1)) (number + 1) q (with_header file number (start + 32 * number) earlier)) o

-- what is due after a header that adds its segment, and after one that faults
pub headers-added : (file : List ℕ) (count number start o : ℕ) (earlier added : List Loaded) (due : Result (List Loaded) ElfFault) → number < count → o ≡ start + 32 * number
    → with_headers file (count - number) number (start + 32 * number) (Ok earlier) ≡ due → with_header file number o earlier ≡ Ok added
    → with_headers file (count - (number + 1)) (number + 1) (start + 32 * (number + 1)) (Ok added) ≡ due
headers-added file count number start o earlier added due h e so_far this =
    let here : with_header file number (start + 32 * number) earlier ≡ Ok added = ap (λ (q : ℕ). with_header file number q earlier) (sym e) ∙ this in
    ap (λ (x : Result (List Loaded) ElfFault). with_headers file (count - (number + 1)) (number + 1) (start + 32 * (number + 1)) x) (sym here) ∙ (sym (headers-next file count number start earlier h) ∙ so_far)

pub headers-refused : (file : List ℕ) (count number start o : ℕ) (earlier : List Loaded) (due : Result (List Loaded) ElfFault) (error : ReadError) → number < count → o ≡ start + 32 * number
    → with_headers file (count - number) number (start + 32 * number) (Ok earlier) ≡ due → IsRefusal (with_header file number o earlier) error → IsRefusal due error
headers-refused file count number start o earlier due (Fault fault) h e so_far this =
    let here : with_header file number (start + 32 * number) earlier ≡ Err fault = ap (λ (q : ℕ). with_header file number q earlier) (sym e) ∙ this in
    sym so_far ∙ (headers-next file count number start earlier h ∙ (ap (λ (x : Result (List Loaded) ElfFault). with_headers file (count - (number + 1)) (number + 1) (start + 32 * (number + 1)) x) here ∙ headers-err file (count - (number + 1)) (number + 1) (start + 32 * (number + 1)) fault))
headers-refused file count number start o earlier due NoMemory h e so_far this = tt
