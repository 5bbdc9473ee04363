mod SetUp
mod SetUpAll
mod ClientCalls
mod Assembling
mod MemberDuties
