mod Accepted
mod Failing
mod Listed
mod Noting
mod Plainly
mod Stopping
mod Telling
