-- What was read from a stream as it came.
use Rattle.iloc_driver.proofs.Common.{◌≡◌, ℕ, ◌≢◌, List, Some, None, Err, string_bytes, Option, arith, Block, fault_of_numbers, fault_of_stream, priorities_in, Held, Holds, HasNoneFor, IsCaused, ReadsFile, Refuses, of_file, of_ranked_file, of_shared_file, NumbersFault, Farm, Priorities, ReadFailed, Rows, Text}
use Rattle.std.specs.declared.alloc.Global.{Global}
use Rattle.std.specs.declared.string.String.{String}
use Rattle.iloc_text.specs.Files.{Denotes}
use Rattle.iloc_text.specs.declared.fault.ReadFault.{ReadFault}
use Rattle.iloc_text.specs.declared.fault.StreamFault.{StreamFault}
use Rattle.iloc_text.specs.Files.{IsRefused}
use Rattle.iloc_text.specs.Streams.{ReadsText, EndsStream}
use Rattle.iloc_driver.specs.declared.fault.FarmFault.TheVariants as farm
use Rattle.iloc_driver.specs.declared.fault.NumbersFault.TheVariants as numbers
use Rattle.iloc_driver.specs.declared.fault.RunFault.{RunFault}
use Rattle.iloc_driver.specs.declared.fault.RunFault.TheVariants.{Task, WriteFailed}

refuses : (old new : Option (List ℕ)) (fault : ReadFault)
    → (text : List ℕ) × ReadsText old new text × IsRefused text fault → Refuses IsRefused old new fault
refuses old new fault h = record { input = h.0; read = h.1; refused = h.2 }

pub ends_file : (old new : Option (List ℕ)) (fault : StreamFault) → EndsStream old new fault
    → IsCaused (of_file old new) (fault_of_stream fault)
ends_file old new fault h = grind (arith, refuses)

-- what ends the reading of a file ends it where priorities are read too
pub ranked_causes : (file : Option (String Global)) (held : Held) (old new : Option (List ℕ)) (fault : RunFault)
    → IsCaused (of_file old new) fault → IsCaused (of_ranked_file file held old new) fault
ranked_causes None held old new fault is = is
ranked_causes (Some name) held old new (Priorities fault) is = absurd is
ranked_causes (Some name) held old new ReadFailed is = is
ranked_causes (Some name) held old new (Text fault) is = is
ranked_causes (Some name) held old new (Rows fault) is = is
ranked_causes (Some name) held old new (Task fault) is = is
ranked_causes (Some name) held old new (Farm farm.NoThread) is = is
ranked_causes (Some name) held old new (Farm farm.NoMemory) is = is
ranked_causes (Some name) held old new WriteFailed is = is

-- and where workers list it
pub shared_causes : (file : Option (String Global)) (held : Held) (old new : Option (List ℕ)) (fault : RunFault)
    → IsCaused (of_ranked_file file held old new) fault → IsCaused (of_shared_file file held old new) fault
shared_causes None held old new (Farm farm.NoThread) is = absurd is
shared_causes (Some name) held old new (Farm farm.NoThread) is = absurd is
shared_causes file held old new (Farm farm.NoMemory) is = is
shared_causes file held old new ReadFailed is = is
shared_causes file held old new (Text fault) is = is
shared_causes file held old new (Rows fault) is = is
shared_causes file held old new (Task fault) is = is
shared_causes file held old new (Priorities fault) is = is
shared_causes file held old new WriteFailed is = is

none_for : (known old new : Option (List ℕ)) (text : List ℕ) (fault : NumbersFault) → Holds known text
    → (file : ReadsFile old new) → priorities_in text file.blocks ≡ Err fault → HasNoneFor known old new fault
none_for known old new text fault holds file refused = record { text = text; held = holds; file = file; refused = refused }

-- so does a text that has no priorities of the file that was read
pub none_caused : (name : String Global) (held : Held) (old new : Option (List ℕ)) (input : List ℕ) (blocks : List Block)
    (text : List ℕ) (fault : NumbersFault)
    → Holds (held (string_bytes name)) text → ReadsText old new input → Denotes input blocks
    → (fault ≢ numbers.NoMemory → priorities_in text blocks ≡ Err fault)
    → IsCaused (of_ranked_file (Some name) held old new) (fault_of_numbers fault)
none_caused name held old new input blocks text numbers.NoMemory holds read denotes refused = tt
none_caused name held old new input blocks text numbers.TooLong holds read denotes refused =
    none_for (held (string_bytes name)) old new text _ holds
    (record { input = input; read = read; blocks = blocks; denoted = denotes }) (refused (λ e. cc))
none_caused name held old new input blocks text (numbers.OtherCount k n found) holds read denotes refused =
    none_for (held (string_bytes name)) old new text _ holds
    (record { input = input; read = read; blocks = blocks; denoted = denotes }) (refused (λ e. cc))
none_caused name held old new input blocks text (numbers.NotANumber k word) holds read denotes refused =
    none_for (held (string_bytes name)) old new text _ holds
    (record { input = input; read = read; blocks = blocks; denoted = denotes }) (refused (λ e. cc))
none_caused name held old new input blocks text (numbers.NoBlock k) holds read denotes refused =
    none_for (held (string_bytes name)) old new text _ holds
    (record { input = input; read = read; blocks = blocks; denoted = denotes }) (refused (λ e. cc))
