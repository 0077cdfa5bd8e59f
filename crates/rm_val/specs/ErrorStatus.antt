-- The numbers of the error statuses (RFC 1905, section 3).
use Rattle.std.specs.Prelude.{ℤ, pos}
use Rattle.rm_val.specs.declared.error.ErrorStatus.{ErrorStatus}
use Rattle.rm_val.specs.declared.error.ErrorStatus.TheVariants.{NoError, TooBig, NoSuchName, BadValue, ReadOnly, GenErr, NoAccess, WrongType, WrongLength, WrongEncoding, WrongValue, NoCreation, InconsistentValue, ResourceUnavailable, CommitFailed, UndoFailed, AuthorizationError, NotWritable, InconsistentName}

-- the number of an error status in a message
abbrev pub number_of : ErrorStatus → ℤ
number_of NoError = pos 0
number_of TooBig = pos 1
number_of NoSuchName = pos 2
number_of BadValue = pos 3
number_of ReadOnly = pos 4
number_of GenErr = pos 5
number_of NoAccess = pos 6
number_of WrongType = pos 7
number_of WrongLength = pos 8
number_of WrongEncoding = pos 9
number_of WrongValue = pos 10
number_of NoCreation = pos 11
number_of InconsistentValue = pos 12
number_of ResourceUnavailable = pos 13
number_of CommitFailed = pos 14
number_of UndoFailed = pos 15
number_of AuthorizationError = pos 16
number_of NotWritable = pos 17
number_of InconsistentName = pos 18
