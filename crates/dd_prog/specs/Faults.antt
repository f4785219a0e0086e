-- Causes for which a command's input isn't read, by the faults of the parts.
use Rattle.dd_io.specs.declared.fault.ReadUpFault.{ReadUpFault}
use Rattle.dd_io.specs.declared.fault.ReadUpFault.TheVariants as reading
use Rattle.dd_script_read.specs.declared.fault.ScriptFault.{ScriptFault}
use Rattle.dd_script_read.specs.declared.fault.ScriptFault.TheVariants as scripts
use Rattle.dd_record.specs.declared.fault.RecordFault.{RecordFault}
use Rattle.dd_record.specs.declared.fault.RecordFault.TheVariants as records
use Rattle.dd_prog.specs.declared.fault.InputFault.{InputFault}
use Rattle.dd_prog.specs.declared.fault.InputFault.TheVariants as causes

abbrev pub cause_of_read : ReadUpFault → InputFault
cause_of_read reading.Failed = causes.Failed
cause_of_read reading.TooLong = causes.TooLong
cause_of_read reading.OutOfMemory = causes.OutOfMemory

abbrev pub cause_of_script : ScriptFault → InputFault
cause_of_script scripts.NotJson = causes.BadInput
cause_of_script scripts.NotScript = causes.BadInput
cause_of_script scripts.OutOfMemory = causes.OutOfMemory

abbrev pub cause_of_record : RecordFault → InputFault
cause_of_record records.BadMagic = causes.BadInput
cause_of_record (records.BadField at) = causes.BadInput
cause_of_record (records.Truncated at) = causes.BadInput
cause_of_record records.OutOfMemory = causes.OutOfMemory
